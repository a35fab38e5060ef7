use Rattle.std.{proofs.Common.take, specs.Str.Parse.AllDigits}
use Rattle.fixed_value.proofs.digits.leading_digits.Given as goal

abbrev pub invariant-loop-i : goal.invariant-loop-i
invariant-loop-i l = AllDigits 10 (take l.i l.text)
