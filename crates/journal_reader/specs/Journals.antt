-- The journals of a shared run as a reader takes them: whose entries may stand in them, and their text.
use Rattle.std.specs.{Prelude.{◌≡◌, ◌≢◌, ℕ, ◌≤◌, List, [], ◌∷◌, ◌++◌, length}, List.AllByRecursion}
use Rattle.metric_table.specs.{Limits.most, declared.limits.Limit.TheVariants.Machines}
use Rattle.line_text.specs.Names.{IsName}
use Rattle.history_model.specs.{declared.entries.Placed.Placed, Allowed.Legal, Entries.entries_of}
use Rattle.journal_lines.specs.{Authors.MayAdd, Lines.HasLine}
pub use Rattle.journal_lines.specs.{Coming.{WasKept, crew_with}, Texts.{Journal, texts_of}}

-- A journal is a legal history, first of entries that a store kept, and then of those that scripts and workers made.
pub record IsJournal (scripts : ℕ) (j : Journal) : Type 0 where
  pub named : IsName j.machine
  pub kept : List Placed
  pub made : List Placed
  pub parts : j.history ≡ kept ++ made
  pub of_store : AllByRecursion WasKept kept
  pub of_run : AllByRecursion (MayAdd (crew_with scripts)) made
  pub lines : AllByRecursion HasLine j.history
  pub legal : Legal (entries_of j.history)

-- a journal of another machine, and journals of different ones
abbrev pub IsOther : List ℕ → Journal → Type 0
IsOther machine j = j.machine ≢ machine

abbrev pub AreDifferent : List Journal → Type 0
AreDifferent [] = Unit {0}
AreDifferent (j ∷ js) = AllByRecursion (IsOther j.machine) js × AreDifferent js

-- journals of different machines, no more than there may be
pub record AreJournals (scripts : ℕ) (js : List Journal) : Type 0 where
  pub few : length js ≤ most Machines
  pub different : AreDifferent js
  pub each : AllByRecursion (IsJournal scripts) js

-- the bytes are the text of journals
pub record IsTextOf (scripts : ℕ) (bytes : List ℕ) (js : List Journal) : Type 0 where
  pub are : AreJournals scripts js
  pub text : bytes ≡ texts_of js
