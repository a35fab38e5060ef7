-- When a table that is kept is that of a finished segmentation.
use Rattle.std.specs.Prelude.{◌≡◌, IfSome, Option, Some, None}
use Rattle.segment_model.specs.Values.{values_by_position}
use Rattle.pelt_core.specs.{Done.Done, Seen.{Tabled, table_of}}

-- the table of the segmentation's points, at its penalty and its least length
abbrev pub table_for : Done → Tabled
table_for done = table_of (values_by_position done.points) done.cert.penalty done.cert.length

-- a table, if there is one, is that of the segmentation
abbrev pub IsTableFor : Done → Option Tabled → Type 0
IsTableFor done table = IfSome table (λ t. t ≡ table_for done)

-- the table is that of a segmentation that is kept
abbrev pub IsKeptTable : Tabled → Option Done → Type 0
IsKeptTable table None = ⊥
IsKeptTable table (Some done) = table ≡ table_for done
