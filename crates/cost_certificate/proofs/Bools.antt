-- A test has one answer.
use Rattle.std.proofs.Common.{◌≡◌, Bool, true, false}

pub not_both : (b : Bool) → b ≡ false → b ≡ true → ⊥
not_both b p q = cc
