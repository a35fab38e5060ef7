-- The passes of a shared run, joined into a whole first pass: what each saw and made, in the whole
-- history of each machine.
use Rattle.std.specs.{Prelude.{◌≡◌, ◌≢◌, ℕ, List, [], ◌∷◌, ◌++◌, Contains, length, slice_get, Some}, List.AllByRecursion}
use Rattle.history_lock.specs.{Marks.{AreByOthers, Follows, IsLongerOf, IsNoneOf, entries, unmarked}, declared.view.Marked.Marked}
use Rattle.history_model.specs.declared.entries.{Author.Author, Placed.Placed}
use Rattle.history_model.specs.declared.entries.Author.TheVariants as author
use Rattle.play_fits.specs.{Passes.{Sight, IsMadeBy, count_of, IsSeenPart}, Scripts.{Exchange, AreAnswered, AreItsOwn}, Workers.{Crew, MayAdd}}

-- a pass that was joined: whose entries it made, and what it has seen at last
pub record Joined : Type 0 where
  pub author : Author
  pub sight : Sight

-- the history of each machine goes on from what the pass has seen, by others than it; and what it
-- made has its author, who may add it
pub record GoesOn (crew : Crew) (log : List ℕ → List (Marked Placed)) (w : Joined) : Type 0 where
  pub rest : List ℕ → List (Marked Placed)
  pub seen : (m : List ℕ) → log m ≡ w.sight.seen m ++ rest m
  pub others : (m : List ℕ) → AreByOthers (w.sight.mark m ∷ []) (rest m)
  pub made : (m : List ℕ) (place : ℕ) (p : Placed) → IsMadeBy w.sight m place p
      → (p.author ≡ w.author) × MayAdd crew p

-- the entry was made by one of the passes
pub record IsMadeByOne (parts : List Joined) (m : List ℕ) (x : Marked Placed) : Type 0 where
  pub joined : Joined
  pub one : Contains parts joined
  pub mark : x.by ≡ Some (joined.sight.mark m)

-- the passes are all that there were: behind what was kept each entry was made by one of them
pub record AreAll (crew : Crew) (kept : List ℕ → List Placed) (log : List ℕ → List (Marked Placed))
    (parts : List Joined) : Type 0 where
  pub each : (w : Joined) → Contains parts w → GoesOn crew log w
  pub apart : (v w : Joined) → Contains parts v → Contains parts w → v.author ≡ w.author → v ≡ w
  pub kept_are : (m : List ℕ) (place : ℕ) (p : Placed) → slice_get (kept m) place ≡ Some p
      → p.author ≡ author.Kept
  pub rest : List ℕ → List (Marked Placed)
  pub begins : (m : List ℕ) → log m ≡ unmarked (kept m) ++ rest m
  pub made : (m : List ℕ) (place : ℕ) (x : Marked Placed) → slice_get (rest m) place ≡ Some x
      → IsMadeByOne parts m x

-- the whole histories as journals
abbrev pub journals_of : (List ℕ → List (Marked Placed)) → List ℕ → List Placed
journals_of log machine = entries (log machine)

abbrev pub count_in : (List ℕ → List Placed) → List ℕ → ℕ
count_in kept machine = length (kept machine)

-- ---- laws

-- a script's part in what its pass has seen is its part in the whole journals
pub record FitsIn (author : Author) (machines : List (List ℕ)) (journal : List ℕ → List Placed)
    (kept : List ℕ → ℕ) (xs : List Exchange) : Type 0 where
  pub answered : AreAnswered author machines journal kept xs
  pub own : AreItsOwn author machines journal kept xs

abbrev pub SeenPartsFit : Type 0
SeenPartsFit =
    (crew : Crew) (machines : List (List ℕ)) (kept : List ℕ → List Placed)
    (log : List ℕ → List (Marked Placed)) (parts : List Joined) (w : Joined) (before : Sight)
    (xs : List Exchange) → AreAll crew kept log parts → Contains parts w → w.author ≢ author.Kept
    → ((m : List ℕ) → count_of before m ≡ count_in kept m)
    → IsSeenPart w.author machines before xs w.sight
    → FitsIn w.author machines (journals_of log) (count_in kept) xs

-- a journal goes on from what was kept by entries that their authors may add
pub record AreByCrew (crew : Crew) (kept : List Placed) (journal : List Placed) : Type 0 where
  pub added : List Placed
  pub goes_on : journal ≡ kept ++ added
  pub may_add : AllByRecursion (MayAdd crew) added

abbrev pub AllAreByCrew : Type 0
AllAreByCrew =
    (crew : Crew) (kept : List ℕ → List Placed) (log : List ℕ → List (Marked Placed))
    (parts : List Joined) → AreAll crew kept log parts
    → (m : List ℕ) → AreByCrew crew (kept m) (journals_of log m)

-- entries of others behind the journals leave a script's part as it is
abbrev pub longer : (journal more : List ℕ → List Placed) → List ℕ → List Placed
longer journal more machine = journal machine ++ more machine

abbrev pub PartsStay : Type 0
PartsStay =
    (author : Author) (machines : List (List ℕ)) (journal more : List ℕ → List Placed)
    (kept : List ℕ → ℕ) (xs : List Exchange)
    → ((m : List ℕ) (place : ℕ) (p : Placed) → slice_get (more m) place ≡ Some p → p.author ≢ author)
    → FitsIn author machines journal kept xs
    → FitsIn author machines (longer journal more) kept xs

-- ---- joins

-- what two passes have seen of a machine, joined: the history goes on from what the second one had
-- seen by others than it, and from whatever the first one's went on from by others than a mark of its
pub record IsJoined (marks : List ℕ) (first other : List (Marked Placed)) (mark : ℕ)
    (log : List (Marked Placed)) : Type 0 where
  pub joined : Follows (mark ∷ []) other log
  pub before : (m : ℕ) (seen : List (Marked Placed)) → ¬ (IsNoneOf m marks)
      → Follows (m ∷ []) seen first → Follows (m ∷ []) seen log

abbrev pub JoinsKeep : Type 0
JoinsKeep =
    (marks : List ℕ) (first other : List (Marked Placed)) (mark : ℕ) (log : List (Marked Placed))
    → IsLongerOf marks first (mark ∷ []) other log → IsJoined marks first other mark log
