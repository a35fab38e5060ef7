use Rattle.go_bench_text.proofs.Digits.{GoesOn}
use Rattle.go_bench_text.proofs.fields.are_digits.Given as goal

abbrev pub invariant-loop-byte : goal.invariant-loop-byte
invariant-loop-byte l = GoesOn l.byte-items l.byte-index
