-- Workers of a room beside its scripts, as they are run.
use Rattle.std.specs.{Prelude.{◌≡◌, ℕ, ◌+◌, Bool, false, ◌||◌, List, [], ◌∷◌, length, take, drop}, List.AllZip}
use Rattle.track_outside.specs.declared.runner.Runner as runner
use Rattle.history_model.specs.declared.entries.Author.TheVariants.{Bisect, Recompute}
use Rattle.play_crew.specs.{Rooms.IsPassOf, Sights.{Home, Sight}}
use Rattle.side_by_side.specs.Runs.{AllWorked}
use Rattle.recompute_workers.specs.Works.{Works}
use Rattle.bisect_workers.specs.Beside.{IsBisectedIn}

-- a worker as it is run: its number, the word of its test, its room, what its pass knows, and whether it met want of memory
pub record Working : Type 0 where
  pub number : ℕ
  pub word : List ℕ
  pub room : List Home
  pub pass : List Sight
  pub wanting : Bool

-- before it is run
abbrev pub working_at : List Home → (word : List ℕ) → ℕ → List Sight → Working
working_at room word n pass = record { number = n; word = word; room = room; pass = pass; wanting = false }

-- one for each pass, by their numbers from this one on
abbrev pub workers_from : List Home → (word : List ℕ) → ℕ → List (List Sight) → List Working
workers_from room word n [] = []
workers_from room word n (p ∷ passes) = working_at room word n p ∷ workers_from room word (n + 1) passes

abbrev pub pass_of : Working → List Sight
pass_of w = w.pass

abbrev pub IsOfRoom : List Home → Working → Type 0
IsOfRoom room w = IsPassOf room w.pass

-- its pass is one of its room
abbrev pub IsSeated : Working → Type 0
IsSeated w = IsOfRoom w.room w

-- one of them met want of memory
abbrev pub any_wanting : List Working → Bool
any_wanting [] = false
any_wanting (w ∷ workers) = w.wanting || any_wanting workers

-- the same worker at the same room
pub record IsSameWorker (old new : Working) : Type 0 where
  pub number : new.number ≡ old.number
  pub word : new.word ≡ old.word
  pub room : new.room ≡ old.room
  pub seated : IsOfRoom old.room new

-- it recomputed: of each machine its pass made publications by the recompute worker of its number alone
pub record Recomputes (old new : Working) : Type 0 where
  pub same : IsSameWorker old new
  pub works : AllZip (Works (Recompute old.number)) old.pass new.pass

-- it bisected with this runner: what its pass made is tied to what the runner was asked meanwhile
pub record Bisects {A : Type 0} (r : runner.Ghosts A) (old : Working) (before : A) (new : Working) (after : A)
    : Type 0 where
  pub same : IsSameWorker old new
  pub bisected : IsBisectedIn (Bisect old.number) old.word old.pass new.pass
      (r.asked before) (r.asked after) (r.faults before) (r.faults after)

-- workers that bisect worked, each with the runner in its place; the runners behind them were left alone
pub record HaveWorked {A : Type 0} (r : runner.Ghosts A) (old : List Working) (began : List A) (new : List Working)
    (after : List A) : Type 0 where
  pub worked : AllWorked (Bisects r) old (take (length old) began) new (take (length old) after)
  pub others : drop (length old) after ≡ drop (length old) began
