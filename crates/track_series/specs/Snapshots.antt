-- What a machine has of a series, as a segmentation needs it.
use Rattle.std.specs.Prelude.{◌≡◌, ◌-◌, true, false, length, take, Option, Some, None}
use Rattle.segment_cost.specs.Certificate.{StandsFor}
use Rattle.point_list.specs.Places.{common}
use Rattle.history_model.specs.{Entries.entries_of, Penalties.{penalty_of, length_of}, Positions.positions, Runs.{Series, is_known}}
use Rattle.publication_index.specs.Standing.{table_for}
use Rattle.track_model.specs.Tracks.{Track, base_of}
use Rattle.track_series.specs.declared.{redone.Redone.Redone, snapshot.Snapshot.Snapshot}

-- the series with its positions and the setting of its metric, at the history's length; and the positions of its base
pub record IsTakenAt (t : Track) (s : Series) (x : Snapshot) : Type 0 where
  pub known : is_known s (entries_of t.history) ≡ true
  pub test : x.test ≡ s.test
  pub metric : x.metric ≡ s.metric
  pub version : x.version ≡ length (entries_of t.history)
  pub penalty : x.penalty ≡ penalty_of s.metric (entries_of t.history)
  pub long : x.length ≡ length_of s.metric (entries_of t.history)
  pub points : x.points ≡ positions (entries_of t.history) s
  pub base : x.base ≡ base_of t s
  pub old : x.old ≡ positions (take x.base (entries_of t.history)) s

-- there is none of a series that isn't known
abbrev pub IsSnapshot : Track → Series → Option Snapshot → Type 0
IsSnapshot t s None = is_known s (entries_of t.history) ≡ false
IsSnapshot t s (Some x) = IsTakenAt t s x

-- the best segmentation of a snapshot, with its table; looked at anew were the positions past those in common with the old
pub record IsRedone (x : Snapshot) (made : Redone) : Type 0 where
  pub test : made.done.test ≡ x.test
  pub metric : made.done.metric ≡ x.metric
  pub version : made.done.version ≡ x.version
  pub base : made.done.base ≡ x.base
  pub redone : made.done.redone ≡ length x.points - common x.old x.points
  pub points : made.done.points ≡ x.points
  pub stands : StandsFor x.points x.penalty x.length made.done.cert
  pub tabled : made.table ≡ table_for made.done
