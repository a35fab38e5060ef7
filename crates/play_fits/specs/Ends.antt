-- The end of a shared run: the passes were joined into a whole first pass, and main did the rest.
use Rattle.std.specs.Prelude.{◌≡◌, ℕ, ◌+◌, List, [], ◌∷◌, Contains, slice_get, Some}
use Rattle.history_lock.specs.declared.view.Marked.{Marked}
use Rattle.history_model.specs.{declared.entries.Author.Author, declared.entries.Placed.Placed, Allowed.Legal, Entries.entries_of}
use Rattle.history_model.specs.declared.entries.Author.TheVariants as author
use Rattle.track_model.specs.Tracks.{Track}
use Rattle.play_fits.specs.{Journals.{machines_of, history_in}, Passes.{Sight, count_of, IsSeenPart}, Scripts.{Exchange, IsWritten}, Workers.{Crew, MayAdd}}
use Rattle.play_fits.specs.{Whole.{Joined, AreAll, journals_of, longer}, Fits.{Play, Played, crew_of, kept_in, Bisected, Fits}}

-- an entry that no script made
abbrev pub IsOfWorker : Author → Type 0
IsOfWorker (author.Script i) = ⊥
IsOfWorker other = Unit {0}

-- what main adds behind the joined passes: entries of workers
pub record IsLate (crew : Crew) (p : Placed) : Type 0 where
  pub may_add : MayAdd crew p
  pub of_worker : IsOfWorker p.author

-- a machine as it is left: its history is what the joined passes have seen, and then what main added
pub record IsEndOf (log : List ℕ → List (Marked Placed)) (kept more : List ℕ → List Placed)
    (before after : Track) : Type 0 where
  pub machine : after.machine ≡ before.machine
  pub same : after.kept ≡ before.kept
  pub legal : Legal (entries_of after.history)
  pub begins : kept before.machine ≡ before.history
  pub ends : after.history ≡ longer (journals_of log) more before.machine

abbrev pub AreEndsOf : (List ℕ → List (Marked Placed)) → (kept more : List ℕ → List Placed)
    → List Track → List Track → Type 0
AreEndsOf log kept more [] [] = Unit {0}
AreEndsOf log kept more (before ∷ befores) (after ∷ afters) =
    IsEndOf log kept more before after × AreEndsOf log kept more befores afters
AreEndsOf log kept more befores afters = ⊥

-- a script was played by one of the passes, which had seen what was kept when it began
pub record HasPlayed (tracks : List Track) (machines : List (List ℕ)) (parts : List Joined) (i : ℕ)
    (s : Played) : Type 0 where
  pub joined : Joined
  pub one : Contains parts joined
  pub author : joined.author ≡ author.Script i
  pub before : Sight
  pub counts : (m : List ℕ) → count_of before m ≡ kept_in tracks m
  pub exchanges : List Exchange
  pub part : IsSeenPart joined.author machines before exchanges joined.sight
  pub written : IsWritten s.full s.script s.transcript exchanges

pub record Ends (play : Play) (journals : List Track) : Type 0 where
  pub log : List ℕ → List (Marked Placed)
  pub more : List ℕ → List Placed
  pub parts : List Joined
  pub all : AreAll (crew_of play) (history_in play.tracks) log parts
  pub late : (m : List ℕ) (place : ℕ) (p : Placed) → slice_get (more m) place ≡ Some p
      → IsLate (crew_of play) p
  pub tracks : AreEndsOf log (history_in play.tracks) more play.tracks journals
  pub whole : (m : List ℕ) → history_in journals m ≡ longer (journals_of log) more m
  pub scripts : (i : ℕ) (s : Played) → slice_get play.scripts i ≡ Some s
      → HasPlayed play.tracks (machines_of journals) parts (i + 1) s
  pub bisectors : Bisected play journals

-- a shared run that ends so fits its journals
abbrev pub EndsFit : Type 0
EndsFit = (play : Play) (journals : List Track) → Ends play journals → Fits play journals
