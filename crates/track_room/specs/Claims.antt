-- The claims of those who took a series.
use Rattle.std.specs.{Prelude.{◌≡◌, ℕ, List, Option, option_map}, List.AllZip}
use Rattle.segment_cost.specs.declared.done.Done.{Done}
use Rattle.touch_index.specs.declared.key.SeriesKey.{SeriesKey}
use Rattle.track_state.specs.{Snapshot.Snapshot, declared.taking.TakenSeries.TakenSeries}
use Rattle.track_room.specs.{Asked.ChangesAt, Sights.{Sight, SeesMore, Visits}, Taking.Releases}

-- a claim on a series of the machine at a place
pub record Claimed : Type 0 where
  pub machine : ℕ
  pub key : SeriesKey

-- the series that was taken with a claim
abbrev pub taken_with : Claimed × Snapshot → TakenSeries
taken_with taken = record { key = taken.0.key; snapshot = taken.1 }

-- and the place of its machine
abbrev pub placed : Claimed × Snapshot → ℕ × TakenSeries
placed taken = (taken.0.machine, taken_with taken)

abbrev pub all_placed : Option (Claimed × Snapshot) → Option (ℕ × TakenSeries)
all_placed found = option_map placed found

-- a segmentation of the series that a claim is on
pub record IsOf (key : SeriesKey) (done : Done) : Type 0 where
  pub test : done.test ≡ key.test
  pub metric : done.metric ≡ key.metric

-- the pass has seen more; then it entered the machine of a claim, and the claim on its series ended
pub record EndsClaim (claim : Claimed) (old new : List Sight) : Type 0 where
  pub middle : List Sight
  pub sees : AllZip SeesMore old middle
  pub still : ChangesAt claim.machine SeesMore middle new
  pub ended : ChangesAt claim.machine (Visits (Releases claim.key)) middle new
