-- The points that cut lines give, and the limits of a series.
use Rattle.std.specs.Prelude.{◌≤◌, ℕ, List, length, map}
use Rattle.segment_model.specs.{Segments.Position, Brought.{Brought, positions_of}}
use Rattle.cut_lines.specs.Lines.{CutLine}

-- what a line brings: its value, at its order, which is the commit, and by its number, which is the
-- step
abbrev pub brought_by : CutLine → Brought
brought_by cut = record { commit = cut.order; step = cut.number; value = cut.value }

-- a position for each order, in rising order, with the values of its lines in their order
abbrev pub points_of : List CutLine → List Position
points_of cuts = positions_of (map brought_by cuts)

-- at most 65,536 values at this many positions
pub record FitsWithin (most : ℕ) (cuts : List CutLine) : Type 0 where
  pub few_values : length cuts ≤ 65_536
  pub few_positions : length (points_of cuts) ≤ most
