-- What the rows of a store lead to: machines with their histories.
use Rattle.std.specs.Prelude.{◌≡◌, ◌⊎◌, ℕ, suc, ◌<◌, true, List, [], ◌∷◌, ◌++◌, length, find, Some, None}
use Rattle.metric_table.specs.{Limits.most, declared.limits.Limit.TheVariants.Machines}
use Rattle.history_model.specs.declared.entries.Author.TheVariants as author
use Rattle.history_model.specs.{declared.entries.Entry.Entry, Allowed.Allowed, Entries.entries_of}
use Rattle.track_entry.specs.{Texts.SpellsEntry, Versions.SpellsV1}
use Rattle.track_model.specs.Tracks.{Track, new_track, with_entry}
use Rattle.store_rows.specs.{Rows.{Row, machine_row, entry_row, IsRowOf}, Loading.{LeadsTo, IsBad}}
use Rattle.keep_rows.specs.{Machines.{is_track, changed}, Kept.is_kept, Rows.format_row}

-- what rows lead to: machines with their histories, and the version of the rows behind them
pub record Stored : Type 0 where
  pub machines : List Track
  pub version : ℕ

-- a store of no rows; its rows are of version 1 up to one that says otherwise
abbrev pub nothing_stored : Stored
nothing_stored = record { machines = []; version = 1 }

-- what a text spells in a version
abbrev pub SpellsIn : ℕ → List ℕ → Entry → Type 0
SpellsIn (suc (suc n)) text e = SpellsEntry text e
SpellsIn version text e = SpellsV1 text e

-- a kept machine of no entries
abbrev pub stored_track : List ℕ → Track
stored_track machine = new_track machine true

-- a machine's row: it has none before, there is room, and it comes last
pub record AddsMachine (before : List Track) (machine : List ℕ) (after : List Track) : Type 0 where
  pub fresh : find (is_track machine) before ≡ None
  pub room : length before < most Machines
  pub last : after ≡ before ++ stored_track machine ∷ []

-- an entry's row: its machine has a row before, its text is that of an entry that is kept, in the version of its place, which
-- is allowed after the machine's entries before it and comes behind them
pub record AddsEntry (version : ℕ) (before : List Track) (machine text : List ℕ) (after : List Track) : Type 0 where
  pub track : Track
  pub entry : Entry
  pub found : find (is_track machine) before ≡ Some track
  pub spelled : SpellsIn version text entry
  pub is_kept : is_kept entry ≡ true
  pub allowed : Allowed (entries_of track.history) entry
  pub behind : after ≡ changed machine (λ t. with_entry author.Kept t entry) before

-- a row adds what it says
abbrev pub Adds : ℕ → List Track → Row → List Track → Type 0
Adds version before (machine_row machine) after = AddsMachine before machine after
Adds version before (entry_row machine text) after = AddsEntry version before machine text after

-- and so do the bytes of one
abbrev pub AddsRow : ℕ → List Track → List ℕ → List Track → Type 0
AddsRow version before bytes after = (row : Row) × IsRowOf bytes row × Adds version before row after

-- `format 2` stands once at most; any other row adds what it says in the version of its place
abbrev pub Makes : Stored → List ℕ → Stored → Type 0
Makes before bytes after =
    ((bytes ≡ format_row) × (before.version ≡ 1) × (after ≡ record { machines = before.machines; version = 2 }))
    ⊎ (AddsRow before.version before.machines bytes after.machines × (after.version ≡ before.version))

-- the rows lead to these machines, in order, and to this version
abbrev pub LeadTo : List (List ℕ) → Stored → Type 0
LeadTo rows stored = LeadsTo Makes nothing_stored rows stored

-- row k, from 1, is the first that is none, or isn't allowed after those before it
abbrev pub IsFirstBad : List (List ℕ) → ℕ → Type 0
IsFirstBad rows k = IsBad Makes nothing_stored rows k
