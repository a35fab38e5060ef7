-- Values that came to some positions, placed one after another.
use Rattle.std.specs.Prelude.{◌≡◌, ℕ, ℤ, ◌+◌, ◌<◌, Bool, false, ◌==◌, ◌&&◌, List, [], ◌∷◌, length}
use Rattle.segment_model.specs.{Segments.{Observation, Position, values_of}, Limits.WithinLimits, Edits.{inserted, has_commit}}
use Rattle.point_list.specs.Places.{MayCome}
use Rattle.series_index.specs.declared.coming.Coming.{Coming}

-- what was observed
abbrev pub observed : Coming → Observation
observed x = record { step = x.step; value = x.value }

-- the positions with all that came, in the order in which it came
abbrev pub all_placed : List Coming → List Position → List Position
all_placed [] points = points
all_placed (x ∷ coming) points = all_placed coming (inserted x.commit (observed x) points)

-- whether it came by a step at a commit
abbrev pub is_of_step : ℕ → ℕ → Coming → Bool
is_of_step commit step x = x.commit == commit && x.step == step

-- the limits are kept once all are placed; where any wait, positions are fewer than may be, whatever their commits
pub record MayBePlaced (coming : List Coming) (points : List Position) : Type 0 where
  pub within : WithinLimits (all_placed coming points)
  pub few : 0 < length coming → length points + length coming < 16_384

-- there is room for a value, and it may come
pub record HaveRoom (points : List Position) (commit step : ℕ) (value : ℤ) : Type 0 where
  pub may : MayCome points commit step value
  pub values : length (values_of points) < 65_536
  pub positions : has_commit commit points ≡ false → length points < 16_384
