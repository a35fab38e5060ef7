-- Which series are stale.
use Rattle.std.specs.Prelude.{ℕ, Bool, true, ◌&&◌, nat_lt, List, Option, Some, None}
use Rattle.history_model.specs.{declared.entries.Entry.Entry, declared.publication.Publication.Publication, Publications.last_publication}
use Rattle.history_model.specs.Runs.{Series, is_known}
use Rattle.touch_model.specs.Touches.{last_touch}

-- a step lies behind the version of which a publication speaks; every step does where nothing is published
abbrev pub is_behind : ℕ → Option Publication → Bool
is_behind step None = true
is_behind step (Some p) = nat_lt p.version step

-- a known series is stale where its last touch lies behind the version of its last publication, or where it has none
abbrev pub is_stale : List Entry → Series → Bool
is_stale h s = is_known s h && is_behind (last_touch h s) (last_publication s h)
