use Rattle.std.proofs.Common.{arith}
use Rattle.line_text.proofs.Spelling.{own_spelling}
use Rattle.line_text.proofs.escapes.is_own_spelling.Goals as goal

pub returns : goal.returns
returns c _ = own_spelling c.args.bytes.now (λ k below. c.loop-byte.invariant k (omega arith))
