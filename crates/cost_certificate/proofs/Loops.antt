-- What holds of all before a place, and of that place.
use Rattle.std.proofs.{Common.{◌≡◌, ℕ, ◌+◌, ◌<◌, ◌≤◌, inl, inr, arith}, lemmas.Bool.cases_lt}

pub one-more : (P : ℕ → Type 0) (low t : ℕ) → ((k : ℕ) → low < k → k < t → P k) → P t → (k : ℕ) → low < k → k < t + 1 → P k
one-more P low t before here k above below = elim (cases_lt k t) [
  | inl earlier ↦ before k above earlier
  | inr at ↦ let e : k ≡ t = omega arith in rw e here
]

pub one-more-between : (P : ℕ → Type 0) (low t : ℕ) → ((k : ℕ) → low ≤ k → k < t → P k) → P t → (k : ℕ) → low ≤ k → k < t + 1 → P k
one-more-between P low t before here k above below = elim (cases_lt k t) [
  | inl earlier ↦ before k above earlier
  | inr at ↦ let e : k ≡ t = omega arith in rw e here
]
