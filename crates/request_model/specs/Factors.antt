-- The factors of a penalty that is made from noise.
use Rattle.std.specs.Prelude.{ℕ, ◌≤◌}

-- a factor that a penalty may be made by: from 1 to 1,000
abbrev pub IsFactor : ℕ → Type 0
IsFactor factor = (1 ≤ factor) × (factor ≤ 1_000)
