-- What becomes of a finished segmentation that is handed in.
use Rattle.std.specs.Prelude.{◌≡◌, ℕ, ◌+◌, List, [], ◌∷◌, length, Option, Some, None}
use Rattle.metric_table.specs.declared.limits.Limit.{Limit, TheVariants.{Steps, Cuts}}
use Rattle.segment_cost.specs.declared.done.Done.{Done}
use Rattle.history_model.specs.{declared.entries.Author.Author, declared.entries.Entry.Entry, Allowed.first_passed, Entries.entries_of}
use Rattle.history_model.specs.Publications.{last_publication}
use Rattle.publication_index.specs.Kept.{series_of}
pub use Rattle.track_model.specs.Publishing.{later}
use Rattle.track_model.specs.Tracks.{Track, with_publication}
use Rattle.track_series.specs.declared.publishing.Published.{Published}
use Rattle.track_series.specs.declared.publishing.Published.TheVariants as published
use Rattle.machine_state.specs.Made.{entry_of, publication_from}

-- where it passes a limit that is told and nothing changes, else it is added, and its table is home
abbrev pub IsAdded : Option Limit → Track → Author → Done → Published → Track → Type 0
IsAdded (Some limit) old author done told new = (told ≡ published.Full limit) × (new ≡ old)
IsAdded None old author done told new =
    (told ≡ published.Ok (length (entries_of old.history) + 1))
    × (new ≡ with_publication author old (publication_from done))

-- the first limit that the history passes with it
abbrev pub passed : List Entry → Done → Option Limit
passed h done = first_passed (Steps ∷ Cuts ∷ []) h (entry_of done)

-- where a later version of the series was published that is told and nothing changes
abbrev pub IsTaken : Option ℕ → Track → Author → Done → Published → Track → Type 0
IsTaken (Some version) old author done told new = (told ≡ published.Stale version) × (new ≡ old)
IsTaken None old author done told new = IsAdded (passed (entries_of old.history) done) old author done told new

-- what becomes of it
abbrev pub IsPublished : Track → Author → Done → Published → Track → Type 0
IsPublished old author done told new = IsTaken (later done.version (last_publication (series_of done) (entries_of old.history))) old author done told new
