use Rattle.fixed_value.{specs.Fixed.low_digits, proofs.Places.Appended}
use Rattle.fixed_value.proofs.fixed.put_low_digits.Given as goal

abbrev pub invariant-loop-place : goal.invariant-loop-place
invariant-loop-place l = Appended l.fn.out.items l.out.items (low_digits l.place l.n) (low_digits l.d l.n)
