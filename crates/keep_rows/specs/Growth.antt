-- How machines go on from those that were loaded.
use Rattle.std.specs.{Prelude.{◌≡◌, ◌≤◌, true, false, List, [], ◌∷◌, ◌++◌, length}, List.AllByRecursion}
use Rattle.metric_table.specs.{Limits.most, declared.limits.Limit.TheVariants.Machines}
use Rattle.history_model.specs.{declared.entries.Placed.Placed, Allowed.Legal, Entries.entries_of}
use Rattle.line_text.specs.Names.{IsName}
use Rattle.track_entry.specs.Texts.{HasShortMetric, IsEntry}
use Rattle.track_model.specs.Tracks.{Track}
use Rattle.keep_rows.specs.{Machines.{AreDifferent, names_of}, Kept.kept_entries, Rows.is_of_session}

-- entries that this session made
abbrev pub AreOfSession : List Placed → Type 0
AreOfSession entries = AllByRecursion (λ (p : Placed). is_of_session p.author ≡ true) entries

-- a kept machine, with entries of this session more
pub record GoesOn (old new : Track) : Type 0 where
  pub machine : new.machine ≡ old.machine
  pub kept : new.kept ≡ true
  pub added : List Placed
  pub history : new.history ≡ old.history ++ added
  pub made : AreOfSession added

-- a machine that the store had not
abbrev pub IsNewTrack : Track → Type 0
IsNewTrack t = (t.kept ≡ false) × AreOfSession t.history

-- the kept machines go on in their order, and new ones come behind them
abbrev pub GoOn : List Track → List Track → Type 0
GoOn [] new = AllByRecursion IsNewTrack new
GoOn (t ∷ old) [] = ⊥
GoOn (t ∷ old) (u ∷ new) = GoesOn t u × GoOn old new

-- the entry has a text, if the metric that it names is short
abbrev pub HasTextIfShort : Placed → Type 0
HasTextIfShort p = HasShortMetric p.entry → IsEntry p.entry

-- a machine can be kept: it has a name, its kept entries have texts, and they are allowed one after another
pub record MayBeKept (t : Track) : Type 0 where
  pub named : IsName t.machine
  pub spelled : AllByRecursion IsEntry (kept_entries (entries_of t.history))
  pub legal : Legal (kept_entries (entries_of t.history))

-- machines went on from others, each may be kept, they differ, and are no more than there may be
pub record WentOn (old new : List Track) : Type 0 where
  pub go_on : GoOn old new
  pub may : AllByRecursion MayBeKept new
  pub different : AreDifferent (names_of new)
  pub few : length new ≤ most Machines
