-- Passes that are split from a room's first pass, are used apart, and are joined into it again.
use Rattle.std.specs.{Prelude.{◌≡◌, ℕ, List, [], ◌∷◌, map}, List.{AllByRecursion, AllZip}}
use Rattle.history_lock.specs.Marks.{unmarked}
use Rattle.track_model.specs.Tracks.{Track}
use Rattle.track_room.specs.{Asked.names_of, Rooms.{AreSame, IsPassOf, IsWhole, JoinsEach}, Sights.{Home, Sight, IsFirstOf, split_off, splitting}}
use Rattle.play_fits.specs.Journals.{machines_of, history_in}
use Rattle.play_seats.specs.{Gathered.AreJoining, Seats.{Seat, seen_in}}

-- these passes were split off, one after another
abbrev pub SplitsAll : (old : List Sight) → List (List Sight) → (new : List Sight) → Type 0
SplitsAll old [] new = new ≡ old
SplitsAll old (o ∷ os) new = (o ≡ map split_off old) × SplitsAll (map splitting old) os new

-- and these were joined
abbrev pub JoinsAll : (old : List Sight) → List (List Sight) → (new : List Sight) → Type 0
JoinsAll old [] new = new ≡ old
JoinsAll old (o ∷ os) new = (between : List Sight) × JoinsEach old o between × JoinsAll between os new

abbrev pub pass_of : Seat → List Sight
pass_of i = i.pass

-- the room's first pass, from its beginning to where all that were split off are joined
pub record IsShared (tracks : List Track) (room : List Home) (befores : List (List Sight))
    (afters : List Seat) (first last : List Sight) : Type 0 where
  pub of_room : IsPassOf room first
  pub starts : AllZip IsFirstOf tracks first
  pub between : List Sight
  pub splits : SplitsAll first befores between
  pub seated : AllByRecursion (λ (i : Seat). IsPassOf room i.pass) afters
  pub same : AllZip (λ (b : List Sight) (i : Seat). AreSame b i.pass) befores afters
  pub joins : JoinsAll between (map pass_of afters) last

-- these, the last one first
abbrev pub onto : {A : Type 0} → List A → List A → List A
onto [] behind = behind
onto (x ∷ xs) behind = onto xs (x ∷ behind)

-- a pass has seen what was kept, and no more
abbrev pub HasSeenKept : List Track → List Sight → Type 0
HasSeenKept tracks pass = (m : List ℕ) → seen_in pass m ≡ unmarked (history_in tracks m)

-- of each machine it is known whether the store had it
abbrev pub AreKeptAs : List Track → List Sight → Type 0
AreKeptAs tracks pass = AllZip (λ (t : Track) (s : Sight). s.kept ≡ t.kept) tracks pass

-- it is whole then, and knows of each; and each began with what was kept
pub record EndsShared (tracks : List Track) (room : List Home) (befores : List (List Sight))
    (afters : List Seat) (last : List Sight) : Type 0 where
  pub machines : machines_of tracks ≡ names_of room
  pub whole : IsWhole last
  pub joining : AreJoining tracks (onto afters []) last
  pub began : AllByRecursion (HasSeenKept tracks) befores
  pub same : AreKeptAs tracks last

abbrev pub SharingEnds : Type 0
SharingEnds =
    (tracks : List Track) (room : List Home) (befores : List (List Sight)) (afters : List Seat)
    (first last : List Sight) → IsShared tracks room befores afters first last
    → EndsShared tracks room befores afters last
