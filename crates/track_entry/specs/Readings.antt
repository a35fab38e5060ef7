-- No public contract cites this. What a reader of words gives.
use Rattle.std.specs.Prelude.{◌≡◌, ℕ, ℤ, List, drop, Result, Ok, Err}
use Rattle.history_model.specs.declared.{entries.Entry.Entry, events.Raised.Raised, publication.Publication.Publication, run.Run.Run}
use Rattle.history_model.specs.declared.entries.Entry.TheVariants as entry
use Rattle.history_model.specs.declared.events.RegressionEvent.TheVariants as regression
use Rattle.history_model.specs.declared.events.JobEvent.TheVariants as job
use Rattle.regression_state.specs.declared.states.State.{State}
use Rattle.track_entry.specs.declared.{fault.EntryFault.EntryFault, fault.EntryFault.TheVariants.{NotEntry, NoMemory}, kind.Kind.Kind}
use Rattle.track_entry.specs.declared.kind.Kind.TheVariants.{Commit, Accept, Retract, Tune, Publish, Raise, Move, Begin, Answer, GiveUp}
use Rattle.track_entry.specs.Texts.{entry_words, IsEntry}

-- a reader gives what it should, unless there was no memory
abbrev pub Reads : {A : Type 0} → Result A EntryFault → (A → Type 0) → Type 0
Reads (Ok x) P = P x
Reads (Err NotEntry) P = ⊥
Reads (Err NoMemory) P = Unit {0}

-- it gives the entry, if that is what the words behind the word of its kind spell
abbrev pub ReadsEntry : List (List ℕ) → Result Entry EntryFault → Entry → Type 0
ReadsEntry words r e = IsEntry e → words ≡ drop 1 (entry_words e) → Reads r (λ read. read ≡ e)

-- so with each entry of a kind
abbrev pub ReadsKind : Kind → List (List ℕ) → Result Entry EntryFault → Type 0
ReadsKind Commit words r = (number : ℕ) (name : List ℕ) → ReadsEntry words r (entry.Commit number name)
ReadsKind Accept words r = (run : Run) → ReadsEntry words r (entry.Accept run)
ReadsKind Retract words r = (run : List ℕ) → ReadsEntry words r (entry.Retract run)
ReadsKind Tune words r = (metric : List ℕ) (penalty : ℤ) (len : ℕ) → ReadsEntry words r (entry.Tune metric penalty len)
ReadsKind Publish words r = (p : Publication) → ReadsEntry words r (entry.Publish p)
ReadsKind Raise words r = (raised : Raised) → ReadsEntry words r (entry.Regression (regression.Raise raised))
ReadsKind Move words r = (number : ℕ) (state : State) → ReadsEntry words r (entry.Regression (regression.Move number state))
ReadsKind Begin words r = (lo hi : ℕ) → ReadsEntry words r (entry.Job (job.Begin lo hi))
ReadsKind Answer words r = (number place status : ℕ) → ReadsEntry words r (entry.Job (job.Answer number place status))
ReadsKind GiveUp words r = (number place : ℕ) → ReadsEntry words r (entry.Job (job.GiveUp number place))
