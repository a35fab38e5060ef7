use Rattle.std.{proofs.Common.drop, specs.Str.Parse.digits_value_after}
use Rattle.fixed_value.proofs.Reading.{ReadsOn}
use Rattle.fixed_value.proofs.digits.number_after.Given as goal

abbrev pub invariant-loop-digit : goal.invariant-loop-digit
invariant-loop-digit l = ReadsOn l.number (drop l.digit-index l.digits) (digits_value_after 10 l.before l.digits)
