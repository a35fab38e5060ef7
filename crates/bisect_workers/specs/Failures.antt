-- How many failures an answer is.
use Rattle.std.specs.Prelude.{ℕ, Option, Some, None}

-- one where no test could be had
abbrev pub failures : Option ℕ → ℕ
failures None = 1
failures (Some status) = 0
