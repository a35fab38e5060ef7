-- One script's part as its own pass of the machines' locks sees it: each request, and all of them.
use Rattle.std.specs.Prelude.{◌≡◌, ℕ, ◌+◌, ◌≤◌, List, [], ◌∷◌, ◌++◌, length, slice_get, Some, Ok, Err}
use Rattle.history_lock.specs.{Marks.{entries, marked}, declared.view.Marked.Marked}
use Rattle.history_model.specs.declared.entries.{Author.Author, Placed.Placed}
use Rattle.request_model.specs.{declared.requests.Request.Request, declared.replies.Reply.Reply, Requests.machine_of}
use Rattle.request_words.specs.Bodies.{Item}
use Rattle.track_model.specs.{Outcomes.refuses, Replies.apart}
use Rattle.play_model.specs.Replies.{IsReply, Adds}
use Rattle.play_fits.specs.Scripts.{Exchange, IsAdded, AreAnswered}

-- what a pass has seen of each machine's history, and the mark of the entries that it makes there
pub record Sight : Type 0 where
  pub seen : List ℕ → List (Marked Placed)
  pub mark : List ℕ → ℕ

-- the journal so far
abbrev pub journal_of : Sight → List ℕ → List Placed
journal_of sight machine = entries (sight.seen machine)

-- so many entries were seen
abbrev pub count_of : Sight → List ℕ → ℕ
count_of sight machine = length (sight.seen machine)

-- the pass made the entry at this place
abbrev pub IsMadeBy : Sight → List ℕ → (place : ℕ) → Placed → Type 0
IsMadeBy sight machine place p =
    slice_get (sight.seen machine) place ≡ Some (marked p (Some (sight.mark machine)))

-- the same pass, which has seen more
pub record SeesMore (before after : Sight) : Type 0 where
  pub marks : (m : List ℕ) → after.mark m ≡ before.mark m
  pub more : List ℕ → List (Marked Placed)
  pub seen : (m : List ℕ) → after.seen m ≡ before.seen m ++ more m

-- nothing of it was made by the pass
abbrev pub AddsNothing : Sight → Sight → Type 0
AddsNothing before after =
    (m : List ℕ) (place : ℕ) (p : Placed) → count_of before m ≤ place
    → IsMadeBy after m place p → ⊥

-- a call found no memory: the pass may have seen more, and made nothing
pub record Waits (before after : Sight) : Type 0 where
  pub sees : SeesMore before after
  pub nothing : AddsNothing before after

-- a request was asked: the reply is one by what is seen then, from what was seen on, and the pass made
-- nothing meanwhile but the entry that the reply tells
pub record Asks (author : Author) (machines : List (List ℕ)) (before : Sight) (q : Request)
    (reply : Reply) (after : Sight) : Type 0 where
  pub sees : SeesMore before after
  pub replies : IsReply author machines (journal_of after) (count_of before) q reply
  pub made : (m : List ℕ) (place : ℕ) (p : Placed) → count_of before m ≤ place
      → IsMadeBy after m place p
      → (machine_of q ≡ m) × Adds author (journal_of after m) (count_of before m) q reply
      × (reply.step ≡ place + 1)

-- an item was answered: a request was asked, and what can't be read was refused apart
abbrev pub AsksItem : Author → List (List ℕ) → Sight → Item → Reply → Sight → Type 0
AsksItem author machines before (Ok q) reply after = Asks author machines before q reply after
AsksItem author machines before (Err reason) reply after =
    (reply ≡ apart (refuses reason)) × (after ≡ before)

-- items were answered one after another
abbrev pub AsksAll : Author → List (List ℕ) → Sight → List Exchange → Sight → Type 0
AsksAll author machines before [] after = after ≡ before
AsksAll author machines before (x ∷ xs) after =
    (between : Sight) × AsksItem author machines before x.item x.reply between
    × AsksAll author machines between xs after

-- what comes of them for the journals that the pass has seen: each reply is one by these, and each
-- entry that the pass made was added by one of the requests
pub record IsSeenPart (author : Author) (machines : List (List ℕ)) (before : Sight)
    (xs : List Exchange) (after : Sight) : Type 0 where
  pub sees : SeesMore before after
  pub answered : AreAnswered author machines (journal_of after) (count_of before) xs
  pub made : (m : List ℕ) (place : ℕ) (p : Placed) → count_of before m ≤ place
      → IsMadeBy after m place p
      → IsAdded author m (journal_of after m) (count_of before m) xs place
