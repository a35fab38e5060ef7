-- What a store keeps of a machine: its history without the publications, as entries that were kept.
use Rattle.std.specs.{Prelude.{◌≡◌, ◌≤◌, Bool, true, false, List, map, filter, length}, List.AllByRecursion}
use Rattle.std.specs.FinSet as set
use Rattle.metric_table.specs.{Limits.most, declared.limits.Limit.TheVariants.Machines}
use Rattle.history_model.specs.declared.entries.Author.TheVariants as author
use Rattle.history_model.specs.{declared.entries.Entry.Entry, declared.entries.Entry.TheVariants.Publish, declared.entries.Placed.Placed, Entries.entries_of}
use Rattle.track_model.specs.Tracks.{Track}
use Rattle.keep_rows.specs.Machines.{AreDifferent, names_of}

-- every kind of entry is kept but a publication
abbrev pub is_kept : Entry → Bool
is_kept (Publish p) = false
is_kept e = true

-- the entries other than publications
abbrev pub kept_entries : List Entry → List Entry
kept_entries h = filter is_kept h

-- an entry as a store keeps it
abbrev pub kept : Entry → Placed
kept e = record { author = author.Kept; entry = e }

-- a machine as a store keeps it; no table is home then
abbrev pub kept_of : Track → Track
kept_of t = record { machine = t.machine; kept = true; history = map kept (kept_entries (entries_of t.history)); home = set.empty }

-- the tracks are as a store keeps them: each as it is kept, of different machines, no more than there may be
pub record AreKept (tracks : List Track) : Type 0 where
  pub kept : AllByRecursion (λ (t : Track). t ≡ kept_of t) tracks
  pub different : AreDifferent (names_of tracks)
  pub few : length tracks ≤ most Machines
