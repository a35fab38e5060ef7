use Rattle.std.proofs.{Common.arith, lemmas.Bool.Decides.nat_tests, lemmas.Str.is_utf8-from_IsUtf8}
use Rattle.lnt_report.proofs.look.is_name.Goals as goal

pub returns-then-not-is_empty : goal.returns-then-not-is_empty
returns-then-not-is_empty c = rw (is_utf8-from_IsUtf8 c.args.text.now c.utf8.text) (grind (arith, nat_tests))
