-- What a segmentation begins with.
use Rattle.std.specs.Prelude.{◌≡◌, ℕ, ℤ, List, [], Option, Some, None}
use Rattle.segment_model.specs.{Segments.Position, Values.values_by_position}
use Rattle.pelt_core.specs.Seen.{Tabled, table_of}

-- a table is that of the old positions; where there is none, there is no base and there are no such positions
abbrev pub Begins : ℕ → List Position → ℤ → ℕ → Option Tabled → Type 0
Begins base old penalty len None = (base ≡ 0) × (old ≡ [])
Begins base old penalty len (Some table) = table ≡ table_of (values_by_position old) penalty len
