-- Journals' text, read line by line, and the first line that is refused.
use Rattle.std.specs.{Prelude.{◌≡◌, ◌≢◌, ◌⊎◌, ℕ, ◌+◌, ◌<◌, List, [], ◌∷◌, ◌++◌, length}, List.{AllByRecursion, flat_map}}
use Rattle.metric_table.specs.{Limits.most, declared.limits.Limit.TheVariants.Machines}
use Rattle.history_model.specs.{declared.entries.Placed.Placed, Allowed.Allowed, Entries.entries_of}
use Rattle.journal_lines.specs.{Lines.{IsHead, IsStep}, Coming.MayCome}
use Rattle.journal_reader.specs.Journals.{Journal, IsOther}

-- what was read: the journals so far, and how many entries of the last one are still to come
pub record Reading : Type 0 where
  pub journals : List Journal
  pub due : ℕ

abbrev pub nothing_read : Reading
nothing_read = record { journals = []; due = 0 }

-- the line of a machine: no entry is to come of the one before, the machine is a new one, and there is room
pub record AddsMachine (before : Reading) (line : List ℕ) (after : Reading) : Type 0 where
  pub machine : List ℕ
  pub count : ℕ
  pub says : IsHead line machine count
  pub none_due : before.due ≡ 0
  pub fresh : AllByRecursion (IsOther machine) before.journals
  pub room : length before.journals < most Machines
  pub is : after ≡ record { journals = before.journals ++ record { machine = machine; history = [] } ∷ []; due = count }

-- the line of the next entry, which may come behind those before it and is allowed there
pub record AddsEntry (scripts : ℕ) (before : Reading) (line : List ℕ) (after : Reading) : Type 0 where
  pub front : List Journal
  pub last : Journal
  pub entry : Placed
  pub more : ℕ
  pub some_due : before.due ≡ more + 1
  pub here : before.journals ≡ front ++ last ∷ []
  pub says : IsStep (length last.history + 1) line entry
  pub may : MayCome scripts last.history entry
  pub allowed : Allowed (entries_of last.history) entry.entry
  pub is : after ≡ record {
    journals = front ++ record { machine = last.machine; history = last.history ++ entry ∷ [] } ∷ [];
    due = more;
  }

-- a line goes on from what was read before it
abbrev pub GoesOn : ℕ → Reading → List ℕ → Reading → Type 0
GoesOn scripts before line after = AddsMachine before line after ⊎ AddsEntry scripts before line after

-- lines lead from one reading to another
abbrev pub LeadTo : ℕ → Reading → List (List ℕ) → Reading → Type 0
LeadTo scripts before [] after = after ≡ before
LeadTo scripts before (line ∷ lines) after =
    (next : Reading) × GoesOn scripts before line next × LeadTo scripts next lines after

-- lines with their line feeds, and none within
abbrev pub with_feed : List ℕ → List ℕ
with_feed line = line ++ 10 ∷ []

abbrev pub with_feeds : List (List ℕ) → List ℕ
with_feeds lines = flat_map with_feed lines

-- no line goes on with these bytes, and they aren't the end of whole journals
pub record Refuses (scripts : ℕ) (before : Reading) (bytes : List ℕ) : Type 0 where
  pub no_line : (line more : List ℕ) (after : Reading) → bytes ≡ line ++ 10 ∷ more → ¬ GoesOn scripts before line after
  pub no_end : bytes ≡ [] → before.due ≢ 0

-- behind a reading: some lines go on, and nothing goes on with what stands behind them
pub record IsRefusedBehind (scripts : ℕ) (before : Reading) (bytes : List ℕ) (count : ℕ) : Type 0 where
  pub lines : List (List ℕ)
  pub rest : List ℕ
  pub split : bytes ≡ with_feeds lines ++ rest
  pub number : count ≡ length lines
  pub reading : Reading
  pub led : LeadTo scripts before lines reading
  pub refused : Refuses scripts reading rest

-- Line l, from 1, is the first that is refused, or one past the last where more had to come: the lines before it are read,
-- and nothing goes on with what stands behind them.
abbrev pub IsRefusedAt : (scripts : ℕ) → List ℕ → (l : ℕ) → Type 0
IsRefusedAt scripts bytes l = (count : ℕ) × (l ≡ count + 1) × IsRefusedBehind scripts nothing_read bytes count
