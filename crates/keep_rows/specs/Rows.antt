-- The rows that a session adds to a store: the version where it is new, then machine by machine, in order of declaration.
use Rattle.std.specs.{Prelude.{ℕ, Bool, true, false, ◌&&◌, if◌then◌else◌, List, [], ◌∷◌, ◌++◌, map, filter, codes, ◌==◌}, List.flat_map}
use Rattle.history_model.specs.declared.entries.{Author.Author, Placed.Placed}
use Rattle.history_model.specs.declared.entries.Author.TheVariants as author
use Rattle.store_rows.specs.Rows.{machine_row, entry_row, row_text}
use Rattle.track_entry.specs.Texts.{entry_text}
use Rattle.track_model.specs.Tracks.{Track}
use Rattle.keep_rows.specs.Kept.{is_kept}

-- anyone but the store made it
abbrev pub is_of_session : Author → Bool
is_of_session author.Kept = false
is_of_session other = true

-- an entry of this session that is kept
abbrev pub is_new : Placed → Bool
is_new p = is_of_session p.author && is_kept p.entry

-- the row of an entry
abbrev pub row_of : List ℕ → Placed → List ℕ
row_of machine p = row_text (entry_row machine (entry_text p.entry))

-- the machine's own row where the store had it not
abbrev pub head_rows : Track → List (List ℕ)
head_rows t = if t.kept then [] else row_text (machine_row t.machine) ∷ []

-- that row, and one for each new entry
abbrev pub track_rows : Track → List (List ℕ)
track_rows t = head_rows t ++ map (row_of t.machine) (filter is_new t.history)

-- the rows of a session, machine by machine
abbrev pub session_rows : List Track → List (List ℕ)
session_rows tracks = flat_map track_rows tracks

-- the row behind which all rows are of version 2
abbrev pub format_row : List ℕ
format_row = codes "format 2"

-- new rows are of version 2; where the store's are of version 1 and there are new ones, `format 2` comes before them
abbrev pub placed : ℕ → List (List ℕ) → List (List ℕ)
placed version [] = []
placed version (row ∷ rows) = if version == 1 then format_row ∷ row ∷ rows else row ∷ rows

abbrev pub new_rows : ℕ → List Track → List (List ℕ)
new_rows version tracks = placed version (session_rows tracks)

-- the version of a store behind them
abbrev pub version_after : ℕ → List (List ℕ) → ℕ
version_after version [] = version
version_after version (row ∷ rows) = 2
