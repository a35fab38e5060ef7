-- A whole shared run: scripts and workers at seats of one room, and then what main adds by itself, as the first worker of
-- each kind.
use Rattle.std.specs.{Prelude.{◌≡◌, ◌⊎◌, ℕ, zero, suc, ◌+◌, List, [], ◌∷◌, ◌++◌, length, Option, Some, None}, List.{AllByRecursion, AllZip}}
use Rattle.track_outside.specs.Asked.{Ask}
use Rattle.history_model.specs.{declared.entries.Author.TheVariants.{Bisect, Recompute}, Allowed.Legal, Entries.entries_of}
use Rattle.track_model.specs.Tracks.{Track}
use Rattle.play_crew.specs.{Rooms.IsPassOf, Sights.{EndsWhole, Home, Sight}, Fitting.ArePlayedFrom, Gathered.AreKept, Seats.{AreDifferent, Seat}}
use Rattle.recompute_workers.specs.{Recomputing.AddsPublications, Works.Works}
use Rattle.bisect_workers.specs.{Beside.IsBisectedIn, Bisecting.IsBisected}
use Rattle.play_fits.specs.{Fits.Play, Workers.Asked}
use Rattle.play_crew.specs.Shared.{IsShared}

-- ---- workers beside the scripts

-- the recompute worker of this number worked, from this pass to this seat
pub record IsRecomputedAt (n : ℕ) (before : List Sight) (after : Seat) : Type 0 where
  pub author : after.author ≡ Recompute n
  pub works : AllZip (Works (Recompute n)) before after.pass

-- so did those from this number on
abbrev pub AreRecomputedFrom : ℕ → List (List Sight) → List Seat → Type 0
AreRecomputedFrom n [] [] = Unit {0}
AreRecomputedFrom n [] (a ∷ us) = ⊥
AreRecomputedFrom n (b ∷ bs) [] = ⊥
AreRecomputedFrom n (b ∷ bs) (a ∷ us) = IsRecomputedAt n b a × AreRecomputedFrom (n + 1) bs us

-- what a runner tells: its asks, where it tells them, and how often it failed
pub record Tally : Type 0 where
  pub asks : Option (List Ask)
  pub faults : ℕ

-- the bisect worker of this number worked with its runner, from this pass to this seat
pub record IsBisectedAt (word : List ℕ) (n : ℕ) (before : List Sight) (after : Seat) (old new : Tally) : Type 0 where
  pub author : after.author ≡ Bisect n
  pub bisected : IsBisectedIn (Bisect n) word before after.pass old.asks new.asks old.faults new.faults

-- so did those from this number on, each with the runner in its place; no other runner was touched
abbrev pub AreBisectedFrom : (word : List ℕ) → ℕ → List (List Sight) → List Seat → (old new : List Tally) → Type 0
AreBisectedFrom word n [] [] old new = new ≡ old
AreBisectedFrom word n [] (a ∷ us) old new = ⊥
AreBisectedFrom word n (b ∷ bs) [] old new = ⊥
AreBisectedFrom word n (b ∷ bs) (a ∷ us) [] new = ⊥
AreBisectedFrom word n (b ∷ bs) (a ∷ us) (t ∷ old) [] = ⊥
AreBisectedFrom word n (b ∷ bs) (a ∷ us) (t ∷ old) (u ∷ new) =
    IsBisectedAt word n b a t u × AreBisectedFrom word (n + 1) bs us old new

-- ---- what main adds

-- where there are recompute workers main publishes as the first of them
abbrev pub RecomputesLast : (workers : ℕ) → List Track → List Track → Type 0
RecomputesLast zero old new = new ≡ old
RecomputesLast (suc n) old new = AllZip (AddsPublications (Recompute 1)) old new

-- main bisects the machines one after another, with one runner
abbrev pub BisectsEach : (word : List ℕ) → (old new : List Track) → (before after : Tally) → Type 0
BisectsEach word [] [] t u = u ≡ t
BisectsEach word [] (new ∷ news) t u = ⊥
BisectsEach word (old ∷ olds) [] t u = ⊥
BisectsEach word (old ∷ olds) (new ∷ news) t u =
    (v : Tally) × IsBisected (Bisect 1) word old new t.asks v.asks t.faults v.faults × BisectsEach word olds news v u

-- where there are bisect workers it does so as the first of them, with the first runner
abbrev pub BisectsLast : (workers : ℕ) → (word : List ℕ) → (old new : List Track) → (before after : List Tally) → Type 0
BisectsLast zero word old new before after = (new ≡ old) × (after ≡ before)
BisectsLast (suc n) word old new [] after = ⊥
BisectsLast (suc n) word old new (t ∷ before) [] = ⊥
BisectsLast (suc n) word old new (t ∷ before) (u ∷ after) = BisectsEach word old new t u × (after ≡ before)

-- ---- runners

-- it wasn't asked yet, or doesn't tell
abbrev pub IsNew : Tally → Type 0
IsNew t = (t.asks ≡ None) ⊎ (t.asks ≡ Some [])

-- the runners, by what they tell before and after
abbrev pub runners_by : (before after : List Tally) → List Asked
runners_by [] after = []
runners_by (t ∷ before) [] = []
runners_by (t ∷ before) (u ∷ after) = record { asks = u.asks; before = t.faults; after = u.faults } ∷ runners_by before after

-- ---- the run

-- some passes, and the seats that they came to
pub record Seated : Type 0 where
  pub befores : List (List Sight)
  pub afters : List Seat

abbrev pub befores_of : (scripts recomputers bisectors : Seated) → List (List Sight)
befores_of s r b = s.befores ++ (r.befores ++ b.befores)

abbrev pub afters_of : (scripts recomputers bisectors : Seated) → List Seat
afters_of s r b = s.afters ++ (r.afters ++ b.afters)

-- the room: its first pass, from which those of all scripts and workers were split off and into which they were joined
-- again, and the machines as it leaves them
pub record IsAtRoom (tracks : List Track) (scripts recomputers bisectors : Seated) (left : List Track) : Type 0 where
  pub room : List Home
  pub different : AreDifferent room
  pub first : List Sight
  pub last : List Sight
  pub shared : IsShared tracks room (befores_of scripts recomputers bisectors) (afters_of scripts recomputers bisectors) first last
  pub of_room : IsPassOf room last
  pub kept : AllByRecursion AreKept tracks
  pub ended : AllZip EndsWhole last left

-- main on the machines that the room leaves, in the place of the first worker of each kind
pub record DoesLast (recompute bisect : ℕ) (word : List ℕ) (left journals : List Track)
    (worked ended : List Tally) : Type 0 where
  pub published : List Track
  pub recomputes : RecomputesLast recompute left published
  pub bisects : BisectsLast bisect word published journals worked ended

-- scripts and workers at the room, and then main on the machines that it leaves
pub record RunsPlayers (play : Play) (journals : List Track) : Type 0 where
  pub scripts : Seated
  pub recomputers : Seated
  pub bisectors : Seated
  pub left : List Track
  pub at_room : IsAtRoom play.tracks scripts recomputers bisectors left
  pub began : List Tally
  pub worked : List Tally
  pub ended : List Tally
  pub played : ArePlayedFrom at_room.room 1 play.scripts scripts.befores scripts.afters
  pub recomputed : AreRecomputedFrom 1 recomputers.befores recomputers.afters
  pub as_many_recompute : length recomputers.afters ≡ play.recompute
  pub bisected : AreBisectedFrom play.word 1 bisectors.befores bisectors.afters began worked
  pub as_many_bisect : length bisectors.afters ≡ play.bisect
  pub main : DoesLast play.recompute play.bisect play.word left journals worked ended
  pub open main use *
  pub legal : AllByRecursion (λ (t : Track). Legal (entries_of t.history)) journals
  pub new : AllByRecursion IsNew began
  pub runners : play.runners ≡ runners_by began ended
