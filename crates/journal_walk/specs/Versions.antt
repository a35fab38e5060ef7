-- No public contract cites this. What a series is at a version of a history.
use Rattle.std.specs.Prelude.{◌≡◌, true, false, List, Option, Some, None}
use Rattle.history_model.specs.{declared.entries.Entry.Entry, Penalties.setting_of, Positions.positions, Runs.{Series, is_known}}
use Rattle.journal_walk.specs.declared.version.Version.{Version}

-- the series is known there, and has these positions and this setting
pub record IsOf (version : List Entry) (s : Series) (x : Version) : Type 0 where
  pub known : is_known s version ≡ true
  pub points : x.points ≡ positions version s
  pub setting : x.setting ≡ setting_of s.metric version

-- there is nothing of a series that isn't known
abbrev pub IsNow : List Entry → Series → Option Version → Type 0
IsNow version s None = is_known s version ≡ false
IsNow version s (Some x) = IsOf version s x
