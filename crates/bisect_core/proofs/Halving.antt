-- The distance left halves at each question.
use Rattle.std.proofs.{Common.{ℕ, ◌+◌, ◌-◌, ◌*◌, ◌/◌, ◌^◌, ◌<◌, ◌≤◌, arith}, lemmas.Grind.{pow_more, common_steps}, Math.Nat.mul-le-mul_right}
use Rattle.bisect_core.specs.Bounds.{IsWithinBound}

-- v is at most half of w
pub halved : (v w x m : ℕ) → 2 * v ≤ w → w * x ≤ m → v * (x * 2) ≤ m
halved v w x m h k = omega (arith, mul-le-mul_right x h)

-- so there were at most as many questions as that
pub asked_more : (n w x : ℕ) → 1 ≤ w → w * x ≤ n - 1 → x * 2 ≤ 2 * n
asked_more n w x h k = grind (arith, common_steps)

-- low goes up half way
pub up : (n low high q : ℕ) → IsWithinBound n low high q → low + 1 < high → IsWithinBound n (low + (high - low) / 2) high (q + 1)
up n low high q b more = record {
  apart = omega (arith, b.apart);
  inside = b.inside;
  left = rw (pow_more 2 q) (halved (high - (low + (high - low) / 2) - 1) (high - low - 1) (2 ^ q) (n - 1) (omega arith) b.left);
  asked = rw (pow_more 2 q) (asked_more n (high - low - 1) (2 ^ q) (omega arith) b.left);
}

-- high comes down half way
pub down : (n low high q : ℕ) → IsWithinBound n low high q → low + 1 < high → IsWithinBound n low (low + (high - low) / 2) (q + 1)
down n low high q b more = record {
  apart = omega (arith, b.apart);
  inside = omega (arith, b.inside);
  left = rw (pow_more 2 q) (halved (low + (high - low) / 2 - low - 1) (high - low - 1) (2 ^ q) (n - 1) (omega arith) b.left);
  asked = rw (pow_more 2 q) (asked_more n (high - low - 1) (2 ^ q) (omega arith) b.left);
}
