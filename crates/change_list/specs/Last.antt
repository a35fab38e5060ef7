-- The last segment of a segmentation.
use Rattle.std.specs.Prelude.{◌≡◌, ◌≢◌, ℕ, ℤ, List, [], length, Option, Some, None}
use Rattle.segment_model.specs.{Segments.{Position, segment, IsCentre}, Cuts.place_before}

-- its centre; none where there are no points
abbrev pub IsLastCentre : List Position → List ℕ → Option ℤ → Type 0
IsLastCentre points cuts None = points ≡ []
IsLastCentre points cuts (Some centre) =
    (points ≢ []) × IsCentre (segment points (place_before cuts (length cuts)) (length points)) centre
