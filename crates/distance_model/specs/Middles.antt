-- How many values are at most a number, and a number in the middle of them by that.
use Rattle.std.specs.Prelude.{ℕ, ℤ, ◌*◌, ◌<◌, ◌≤◌, List, length, count_by, int_le, pos, ◌-ℤ◌}

-- how many values are at most c
abbrev pub at_most : ℤ → List ℤ → ℕ
at_most c xs = count_by (λ x. int_le x c) xs

-- at least half of the values are at most c, and less than half of them are below it
pub record IsMiddle (xs : List ℤ) (c : ℤ) : Type 0 where
  pub half : length xs ≤ 2 * at_most c xs
  pub less : 2 * at_most (c -ℤ pos 1) xs < length xs
