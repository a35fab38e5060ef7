-- The journals of a shared run: the machines with their whole histories, in order of declaration.
use Rattle.std.specs.{Prelude.{◌≡◌, ℕ, List, [], ◌∷◌, ◌++◌, map, bytes_eq, if◌then◌else◌}, List.AllByRecursion}
use Rattle.history_model.specs.{declared.entries.Placed.Placed, Allowed.Legal, Entries.entries_of}
use Rattle.track_model.specs.Tracks.{Track}
use Rattle.play_fits.specs.Workers.{Crew, MayAdd}

-- the names of the machines
abbrev pub machines_of : List Track → List (List ℕ)
machines_of tracks = map (λ (t : Track). t.machine) tracks

-- the history of the machine of this name; of none where there is no such machine
abbrev pub history_in : List Track → List ℕ → List Placed
history_in [] machine = []
history_in (t ∷ tracks) machine =
    if bytes_eq t.machine machine then t.history else history_in tracks machine

-- A journal is a legal history that goes on from the entries that were kept of its machine, by
-- entries that their authors may add.
pub record IsJournalOf (crew : Crew) (before after : Track) : Type 0 where
  pub machine : after.machine ≡ before.machine
  pub kept : after.kept ≡ before.kept
  pub legal : Legal (entries_of after.history)
  pub added : List Placed
  pub goes_on : after.history ≡ before.history ++ added
  pub may_add : AllByRecursion (MayAdd crew) added

-- so it is of each machine, in their order
abbrev pub AreJournalsOf : Crew → List Track → List Track → Type 0
AreJournalsOf crew [] [] = Unit {0}
AreJournalsOf crew (before ∷ befores) (after ∷ afters) =
    IsJournalOf crew before after × AreJournalsOf crew befores afters
AreJournalsOf crew befores afters = ⊥
