use Rattle.line_text.proofs.Digits.{GoesOn}
use Rattle.line_text.proofs.numbers.are_digits.Given as goal

abbrev pub invariant-loop-byte : goal.invariant-loop-byte
invariant-loop-byte l = GoesOn l.word l.byte-index
