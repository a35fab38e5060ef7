-- What a request to a room is answered, and what its pass knows then.
use Rattle.std.specs.Prelude.{◌≡◌, ◌⊎◌, ℕ, Bool, true, false, List, length, map, slice_get, slice_set, Some}
use Rattle.history_model.specs.declared.entries.Author.{Author}
use Rattle.request_model.specs.{declared.requests.Request.Request, declared.replies.Reply.Reply, Requests.machine_of}
use Rattle.track_model.specs.{Outcomes.refuses, Replies.apart}
use Rattle.play_model.specs.Replies.{Adds, Tells, is_of_history, why_apart}
use Rattle.track_room.specs.Sights.{Home, Sight, SeesMore, AddsOne, track_of}

-- the reply adds an entry, which is the last that the pass has seen then, and the only new one that bears its mark; or it adds
-- none, and what is new was added by others. So many entries as the pass had seen before are known
abbrev pub IsAnswered : Author → Request → Reply → Sight → Sight → Type 0
IsAnswered author q reply old new =
    (Adds author (track_of new).history (length old.seen) q reply × ((found : Sight) × SeesMore old found × AddsOne found new))
    ⊎ (Tells (track_of new).history (length old.seen) q reply × SeesMore old new)

-- the reply on a machine's history, which the pass has then seen whole
pub record IsReplied (author : Author) (q : Request) (reply : Reply) (old new : Sight) : Type 0 where
  pub of_machine : old.home.machine ≡ machine_of q
  pub answered : IsAnswered author q reply old new
  pub at_step : reply.step ≡ length new.seen

-- this became of one machine, and the pass knows of the others what it knew
pub record ChangesAt (place : ℕ) (Becomes : Sight → Sight → Type 0) (old new : List Sight)
    : Type 0 where
  pub before : Sight
  pub there : slice_get old place ≡ Some before
  pub after : Sight
  pub becomes : Becomes before after
  pub changed : new ≡ slice_set old place after

-- the names of a room's machines
abbrev pub names_of : List Home → List (List ℕ)
names_of room = map (λ (h : Home). h.machine) room

-- the machine of this name stands at this place
abbrev pub IsNamedAt : List ℕ → List Home → ℕ → Type 0
IsNamedAt machine room place = (h : Home) × (slice_get room place ≡ Some h) × (h.machine ≡ machine)

-- a reply by the history of the machine that the request names, or one that names no history
abbrev pub AsksBy : Bool → Author → Request → Reply → List Sight → List Sight → Type 0
AsksBy true author q reply old new = (place : ℕ) × ChangesAt place (IsReplied author q reply) old new
AsksBy false author q reply old new = (reply ≡ apart (refuses (why_apart q))) × (new ≡ old)

abbrev pub Asks : List Home → Author → Request → Reply → List Sight → List Sight → Type 0
Asks room author q reply old new = AsksBy (is_of_history (names_of room) q) author q reply old new
