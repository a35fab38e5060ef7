-- A script's place at a room, and what it stands on: what its pass has seen of each machine, by name.
use Rattle.std.specs.{Prelude.{◌≡◌, ℕ, false, List, [], ◌∷◌, map, bytes_eq, if◌then◌else◌, Option, Some}, List.{AllByRecursion, AllZip}}
use Rattle.history_lock.specs.declared.view.Marked.{Marked}
use Rattle.history_model.specs.declared.entries.{Author.Author, Placed.Placed}
use Rattle.request_model.specs.declared.{requests.Request.Request, replies.Reply.Reply}
use Rattle.play_fits.specs.Passes as passes
use Rattle.play_script.specs.Posts.{Post}
use Rattle.track_room.specs.{Sights.{Home, Sight, SeesMore}, Asked.{Asks, names_of}, Rooms.AreSame}

-- what was seen of the machine of this name, and the mark of the pass's entries there; nothing of one
-- that isn't among them
abbrev pub seen_in : List Sight → List ℕ → List (Marked Placed)
seen_in [] machine = []
seen_in (s ∷ pass) machine =
    if bytes_eq s.home.machine machine then s.seen else seen_in pass machine

abbrev pub mark_in : List Sight → List ℕ → ℕ
mark_in [] machine = 0
mark_in (s ∷ pass) machine =
    if bytes_eq s.home.machine machine then s.mark else mark_in pass machine

abbrev pub sight_of : List Sight → passes.Sight
sight_of pass = record { seen = seen_in pass; mark = mark_in pass }

-- these machines are different
abbrev pub IsOther : List ℕ → Home → Type 0
IsOther machine h = bytes_eq machine h.machine ≡ false

abbrev pub AreDifferent : List Home → Type 0
AreDifferent [] = Unit {0}
AreDifferent (h ∷ room) = AllByRecursion (IsOther h.machine) room × AreDifferent room

-- the pass is one of the room, whose machines are different
pub record IsSeated (room : List Home) (pass : List Sight) : Type 0 where
  pub of_room : map (λ (s : Sight). s.home) pass ≡ room
  pub different : AreDifferent room

-- ---- a script's place

-- whose script it is, the room, and what its pass knows of the machines
pub record Seat : Type 0 where
  pub author : Author
  pub room : List Home
  pub pass : List Sight

abbrev pub post_of : Seat → Post
post_of s = record { author = s.author; machines = names_of s.room; sight = sight_of s.pass }

-- the same script at the same room, with the same pass, whatever it has seen
pub record Stays (before after : Seat) : Type 0 where
  pub author : after.author ≡ before.author
  pub room : after.room ≡ before.room
  pub seated : IsSeated before.room before.pass
  pub same : AreSame before.pass after.pass

-- a request is asked at the room, and its reply told
pub record AnswersAt (before : Seat) (q : Request) (told : Option Reply) (after : Seat) : Type 0 where
  pub stays : Stays before after
  pub reply : Reply
  pub asks : Asks before.room before.author q reply before.pass after.pass
  pub tells : told ≡ Some reply

-- memory is wanting: the pass may have seen more
pub record FailsAt (before after : Seat) : Type 0 where
  pub stays : Stays before after
  pub sees : AllZip SeesMore before.pass after.pass
