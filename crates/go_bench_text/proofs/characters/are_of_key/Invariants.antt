use Rattle.std.{proofs.Common.{◌≡◌, length}, specs.List.list_all, specs.Str.{chars, IsUtf8}}
use Rattle.go_bench_text.specs.Characters.{is_of_key}
use Rattle.go_bench_text.proofs.characters.are_of_key.Given as goal

abbrev pub invariant-loop-c : goal.invariant-loop-c
invariant-loop-c l = record { text : IsUtf8 l.rest; same : list_all is_of_key (chars l.rest) ≡ list_all is_of_key (chars l.text) }

abbrev pub decreases-loop-c : goal.decreases-loop-c
decreases-loop-c l = length (chars l.rest)
