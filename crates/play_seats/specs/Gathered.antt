-- The first pass of a room when all others were joined into it: what each of these saw and made is in the histories, and
-- behind what was kept nothing else is.
use Rattle.std.specs.{Prelude.{◌≡◌, ℕ, List, map, slice_get, slice_index_or, Contains, Some}, List.AllByRecursion}
use Rattle.history_lock.specs.Marks.{AreBy}
use Rattle.history_model.specs.declared.entries.Author.TheVariants as author
use Rattle.history_model.specs.declared.entries.Placed.{Placed}
use Rattle.track_model.specs.Tracks.{Track}
use Rattle.track_room.specs.{Asked.names_of, Rooms.IsPassOf, Sights.{Home, Sight, own_marks}}
use Rattle.play_fits.specs.{Journals.{machines_of, history_in}, Passes.IsMadeBy, Whole.{AreAll, Joined}, Workers.{Crew, MayAdd}}
use Rattle.play_seats.specs.{Joining.{Joining, Part, part_of}, Seats.{Seat, seen_in, sight_of}}

-- what the seats' passes know of the machine at a place
abbrev pub parts_at : ℕ → Sight → List Seat → List Part
parts_at k s seats = map (λ (i : Seat). part_of (slice_index_or i.pass k s)) seats

-- the first pass, at each machine, while the seats' passes are joined
abbrev pub AreJoining : List Track → List Seat → List Sight → Type 0
AreJoining tracks seats pass =
    (k : ℕ) (t : Track) (d s : Sight) → slice_get tracks k ≡ Some t → slice_get pass k ≡ Some s
    → Joining t.history (parts_at k d seats) s

-- what the seat's pass made has its author, who may add it
abbrev pub OwnsMade : Crew → Seat → Type 0
OwnsMade crew seat =
    (m : List ℕ) (place : ℕ) (p : Placed) → IsMadeBy (sight_of seat.pass) m place p
    → (p.author ≡ seat.author) × MayAdd crew p

-- these entries are all of the store
abbrev pub AreKept : Track → Type 0
AreKept t = AllByRecursion (λ (p : Placed). p.author ≡ author.Kept) t.history

-- the seats' passes were joined into the room's first pass, which is whole then
pub record Gathered (crew : Crew) (tracks : List Track) (room : List Home) (seats : List Seat)
    (pass : List Sight) : Type 0 where
  pub of_room : IsPassOf room pass
  pub machines : machines_of tracks ≡ names_of room
  pub seated : AllByRecursion (λ (i : Seat). IsPassOf room i.pass) seats
  pub joining : AreJoining tracks seats pass
  pub whole : AllByRecursion (λ (s : Sight). AreBy (own_marks s) s.seen) pass
  pub owned : AllByRecursion (OwnsMade crew) seats
  pub apart : (i j : Seat) → Contains seats i → Contains seats j → i.author ≡ j.author → i ≡ j
  pub kept : AllByRecursion AreKept tracks

-- the pass of a seat, by machine name
abbrev pub joined_of : Seat → Joined
joined_of seat = record { author = seat.author; sight = sight_of seat.pass }

-- then they are all that made entries behind what was kept
abbrev pub GatheredAreAll : Type 0
GatheredAreAll =
    (crew : Crew) (tracks : List Track) (room : List Home) (seats : List Seat) (pass : List Sight)
    → Gathered crew tracks room seats pass
    → AreAll crew (history_in tracks) (seen_in pass) (map joined_of seats)
