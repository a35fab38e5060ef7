use Rattle.std.{proofs.Common.length, specs.Str.chars}
use Rattle.go_bench_text.proofs.fields.split_black.Given as goal
use Rattle.go_bench_text.proofs.Passed.{Passed}

abbrev pub invariant-loop-c : goal.invariant-loop-c
invariant-loop-c l = Passed l.text l.rest

abbrev pub decreases-loop-c : goal.decreases-loop-c
decreases-loop-c l = length (chars l.rest)
