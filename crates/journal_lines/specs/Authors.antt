-- Whose entries may stand in the journals of a shared run: those of its scripts and workers, of the kinds that these may add.
use Rattle.std.specs.Prelude.{ℕ, ◌≤◌}
use Rattle.history_model.specs.declared.entries.{Author.Author, Entry.Entry, Placed.Placed}
use Rattle.history_model.specs.declared.entries.Author.TheVariants as author
use Rattle.history_model.specs.declared.entries.Entry.TheVariants as entry
use Rattle.history_model.specs.declared.events.JobEvent.TheVariants as event

-- what a worker that recomputes may add: publications alone
abbrev pub IsPublication : Entry → Type 0
IsPublication (entry.Publish p) = Unit {0}
IsPublication e = ⊥

-- what a worker that bisects may add: answers, and questions given up
abbrev pub IsSettled : Entry → Type 0
IsSettled (entry.Job (event.Answer job place status)) = Unit {0}
IsSettled (entry.Job (event.GiveUp job place)) = Unit {0}
IsSettled e = ⊥

-- one of so many, counted from 1
abbrev pub IsOneOf : ℕ → ℕ → Type 0
IsOneOf count n = (1 ≤ n) × (n ≤ count)

-- how many scripts there are, and workers of each kind
pub record Crew : Type 0 where
  pub scripts : ℕ
  pub recompute : ℕ
  pub bisect : ℕ

-- a new entry is one of these authors, of a kind that its author may add
abbrev pub MayAdd : Crew → Placed → Type 0
MayAdd crew p = by_author p.author
  where
    by_author : Author → Type 0
    by_author author.Kept = ⊥
    by_author (author.Script i) = IsOneOf crew.scripts i
    by_author (author.Recompute i) = IsOneOf crew.recompute i × IsPublication p.entry
    by_author (author.Bisect i) = IsOneOf crew.bisect i × IsSettled p.entry
