-- What the pass of a worker that bisects has seen more of the machines of a room, and what its runner was asked for it.
use Rattle.std.specs.Prelude.{◌≡◌, ◌⊎◌, ℕ, suc, Bool, false, ◌==◌, ◌&&◌, if◌then◌else◌, is_none, is_some, List, [], ◌∷◌, ◌++◌, All, filter, length, map, option_map, option_to_list, slice_get, Option, Some, None}
use Rattle.std.specs.List.{AllByRecursion}
use Rattle.track_outside.specs.Asked.{Ask}
use Rattle.history_lock.specs.{declared.view.Marked.Marked, Marks.{IsOtherMark, entries}}
use Rattle.history_model.specs.{declared.entries.Author.Author, declared.entries.Entry.Entry, declared.entries.Placed.Placed, Entries.entries_of}
use Rattle.track_room.specs.Sights.{Sight, own_marks, seeing}
use Rattle.bisect_workers.specs.Bisecting.{IsDue, IsSaidBy, RoseBy}
use Rattle.worker_model.specs.Findings.{Finding, finding_of}

-- it is this number
abbrev pub is_number : ℕ → Option ℕ → Bool
is_number n None = false
is_number n (Some m) = m == n

-- what the entries with a mark say that was found, each by the history before it
abbrev pub findings_by : ℕ → List Entry → List (Marked Placed) → List Finding
findings_by mark h [] = []
findings_by mark h (x ∷ xs) =
    (if is_number mark x.by then option_to_list (finding_of h x.entry.entry) else []) ++ findings_by mark (h ++ x.entry.entry ∷ []) xs

-- an ask, and the place of the machine whose history has what it found, if one has
pub record Use : Type 0 where
  pub ask : Ask
  pub place : Option ℕ

abbrev pub found_by : Use → Finding
found_by u = record { commit = u.ask.commit; status = u.ask.status }

-- what the asks found that were used at a place, in order
abbrev pub found_at : ℕ → List Use → List Finding
found_at place uses = map found_by (filter (λ (u : Use). is_number place u.place) uses)

abbrev pub asks_of : List Use → List Ask
asks_of uses = map (λ (u : Use). u.ask) uses

-- how many of them are of a failure that is said of a place
abbrev pub is_given_up : Use → Bool
is_given_up u = is_some u.place && is_none u.ask.status

abbrev pub given_up : List Use → ℕ
given_up uses = length (filter is_given_up uses)

-- another pass made the entry; or this one did, and it is what this author says of a place
abbrev pub IsByWorker : Author → Sight → Marked Placed → Type 0
IsByWorker author s x = IsOtherMark (own_marks s) x.by
    ⊎ ((x.by ≡ Some s.mark) × IsSaidBy author x.entry)

-- the pass has seen more of the machine at a place, and its own entries say what was found by the asks that were used there
pub record BisectsAt (author : Author) (uses : List Use) (place : ℕ) (old new : Sight) : Type 0 where
  pub more : List (Marked Placed)
  pub sees : new ≡ seeing old (old.seen ++ more)
  pub each : AllByRecursion (IsByWorker author old) more
  pub found : findings_by old.mark (entries_of (entries old.seen)) more ≡ found_at place uses

-- so of each machine, from a place on
abbrev pub EachBisects : Author → List Use → ℕ → List Sight → List Sight → Type 0
EachBisects author uses place [] [] = Unit {0}
EachBisects author uses place [] (t ∷ new) = ⊥
EachBisects author uses place (s ∷ old) [] = ⊥
EachBisects author uses place (s ∷ old) (t ∷ new) = BisectsAt author uses place s t × EachBisects author uses (suc place) old new

-- an ask is one of the test of that word, on a commit that a job asks after some first entries of what the pass has seen of a
-- machine
pub record IsDueIn (word : List ℕ) (pass : List Sight) (ask : Ask) : Type 0 where
  pub place : ℕ
  pub sight : Sight
  pub there : slice_get pass place ≡ Some sight
  pub due : IsDue word (entries sight.seen) ask

-- What the pass of the worker of this author made, and its runner's asks: of each machine its entries say what some of the
-- asks found, in order, and no ask is used twice; each ask was due; and as many were given up at most as the runner failed.
pub record IsBisectedIn (author : Author) (word : List ℕ) (old new : List Sight) (asked asked' : Option (List Ask)) (faults faults' : ℕ) : Type 0 where
  pub uses : List Use
  pub told : asked' ≡ option_map (λ (before : List Ask). before ++ asks_of uses) asked
  pub each : EachBisects author uses 0 old new
  pub due : All (IsDueIn word new) (asks_of uses)
  pub rose : RoseBy (given_up uses) faults faults'
