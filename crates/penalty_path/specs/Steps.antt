-- No public contract cites this. A stretch of a path, and those behind it.
use Rattle.std.specs.Prelude.{◌≡◌, ◌≢◌, ℤ, List, [], ◌∷◌, ◌<ℤ◌}
use Rattle.segment_model.specs.Segments.{Position}
use Rattle.penalty_path.specs.{declared.stretch.Stretch.Stretch, Paths.IsStretch}

-- what follows a stretch: nothing, where it ends the range; else a stretch with other cuts
abbrev pub IsJoined : ℤ → Stretch → List Stretch → Type 0
IsJoined high s [] = s.to ≡ high
IsJoined high s (t ∷ rest) = (s.to <ℤ high) × (t.first.cuts ≢ s.last.cuts)

-- a stretch begins at a penalty, and what follows it may do so
abbrev pub IsStep : List Position → ℤ → ℤ → Stretch → List Stretch → Type 0
IsStep points from high s rest = IsStretch points s × (s.from ≡ from) × IsJoined high s rest
