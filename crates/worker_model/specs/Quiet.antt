-- What workers leave of a history at last: no series stale and no job open, but where a limit keeps them.
use Rattle.std.specs.Prelude.{◌≡◌, ◌⊎◌, ℕ, ℤ, ◌+◌, ◌<◌, ◌≤◌, true, List, length, Some}
use Rattle.metric_table.specs.{Limits.most, declared.limits.Limit.TheVariants.{Cuts, Steps}}
use Rattle.history_model.specs.{declared.entries.Entry.Entry, declared.publication.Publication.Publication, Jobs.{jobs, open_count}}
use Rattle.history_model.specs.{Penalties.{length_of, penalty_of}, Positions.positions, Publications.{AreBest, cut_count, last_publication}}
use Rattle.history_model.specs.Runs.{Series, is_known}
use Rattle.touch_model.specs.Touches.{last_touch}

-- the series' last publication speaks of a version at or after its last touch
pub record IsCurrent (h : List Entry) (s : Series) : Type 0 where
  pub publication : Publication
  pub last : last_publication s h ≡ Some publication
  pub late : last_touch h s ≤ publication.version

-- there is no room for another entry
abbrev pub HasAllSteps : List Entry → Type 0
HasAllSteps h = length h ≡ most Steps

-- the cuts of a publication of the series as it is now would be too many
pub record WouldPassCuts (h : List Entry) (s : Series) : Type 0 where
  pub cuts : List ℕ
  pub total : ℤ
  pub best : AreBest (positions h s) (penalty_of s.metric h) (length_of s.metric h) cuts total
  pub passes : most Cuts < cut_count h + length cuts

-- no known series is stale, but where a publication of it has no room
abbrev pub SeriesAreQuiet : List Entry → Type 0
SeriesAreQuiet h = (s : Series) → is_known s h ≡ true → IsCurrent h s
    ⊎ (HasAllSteps h ⊎ WouldPassCuts h s)

-- no job is open, but where an answer has no room
abbrev pub JobsAreQuiet : List Entry → Type 0
JobsAreQuiet h = (open_count (jobs h) ≡ 0) ⊎ HasAllSteps h
