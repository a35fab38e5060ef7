use Rattle.std.proofs.{Common.rules, lemmas.Str.{chars_past_char, IsUtf8-past_char}}
use Rattle.go_bench_text.proofs.characters.split_first.Goals as goal

pub returns-clause-chars : goal.returns-clause-chars
returns-clause-chars c = chars_past_char c.args.text.now c.as_str.result.now c.in_ok-first.first c.utf8.text (search rules)

pub returns-clause-more : goal.returns-clause-more
returns-clause-more c = IsUtf8-past_char c.args.text.now c.as_str.result.now c.in_ok-first.first c.utf8.text (search rules)
