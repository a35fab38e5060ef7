use Rattle.std.proofs.Common.{◌≡◌, ℕ, ◌<◌, get_or, true}
use Rattle.line_text.specs.Names.{is_plain}
use Rattle.line_text.proofs.escapes.is_own_spelling.Given as goal

abbrev pub invariant-loop-byte : goal.invariant-loop-byte
invariant-loop-byte l = (k : ℕ) → k < l.byte-index → is_plain (get_or l.bytes k 0) ≡ true
