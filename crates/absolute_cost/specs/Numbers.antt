-- No public contract cites this. A number by how far it is above another.
use Rattle.std.specs.Prelude.{ℕ, ℤ, pos, ◌+ℤ◌}

abbrev pub number_of : ℤ → ℕ → ℤ
number_of least above = least +ℤ pos above
