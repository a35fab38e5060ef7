use Rattle.std.proofs.Common.{refl}
use Rattle.line_text.proofs.Digits.{all_digits}
use Rattle.line_text.proofs.numbers.are_digits.Goals as goal

pub returns : goal.returns
returns c = (λ yes. all_digits c.args.word.now c.loop-byte.byte-index c.loop-byte-test.false c.loop-byte.invariant, λ all. refl)
