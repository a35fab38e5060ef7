-- Scripts that are played at a room.
use Rattle.std.specs.{Prelude.{◌≡◌, ℕ, ◌+◌, ◌≤◌, List, [], ◌∷◌, ◌++◌, length, Result, Ok}, List.AllByRecursion}
use Rattle.track_outside.specs.declared.source.Source as source
use Rattle.track_outside.specs.declared.sink.Sink as sink
use Rattle.request_words.specs.Bodies.{Item}
use Rattle.script_files.specs.declared.open.OpenScript.{OpenScript}
use Rattle.script_loop.specs.{Endings.{HasRead, HasWritten}, declared.stop.Stop.Stop}
use Rattle.play_seats.specs.{Played.{IsEmpty, IsPlayed}, Rooms.{AreSame, IsPassOf}, Sights.{Home, Sight}, Fitting.seat_at, Seats.{Seat, post_of}}
use Rattle.play_seats.specs.Shared.{SplitsAll}

-- a script as it is played: its number, its seat, its input and its transcript, and how it ended
pub record Playing (I O : Type 0) : Type 0 where
  pub number : ℕ
  pub seat : Seat
  pub input : I
  pub output : O
  pub ended : Result (Unit {0}) Stop

-- the same script at the same room, with the same pass, whatever it has seen
pub record IsSameSeat (before after : Seat) : Type 0 where
  pub author : after.author ≡ before.author
  pub room : after.room ≡ before.room
  pub same : AreSame before.pass after.pass

module _ {I O : Type 0} where
  -- before it is played
  abbrev pub playing_at : List Home → ℕ → List Sight → OpenScript I O → Playing I O
  playing_at room n pass script = record {
    number = n;
    seat = seat_at room n pass;
    input = script.input;
    output = script.output;
    ended = Ok tt;
  }

  -- the scripts that are open, each with a pass, by their numbers from this one on
  abbrev pub players_from : List Home → ℕ → List (List Sight) → List (OpenScript I O) → List (Playing I O)
  players_from room n (p ∷ passes) (s ∷ opened) =
      playing_at room n p s ∷ players_from room (n + 1) passes opened
  players_from room n passes opened = []

  abbrev pub pass_of : Playing I O → List Sight
  pass_of p = p.seat.pass

  abbrev pub end_of : Playing I O → Result (Unit {0}) Stop
  end_of p = p.ended

  abbrev pub open_of : Playing I O → OpenScript I O
  open_of p = record { input = p.input; output = p.output }

  abbrev pub IsOfRoom : List Home → Playing I O → Type 0
  IsOfRoom room p = IsPassOf room p.seat.pass

  -- its transcript is new
  abbrev pub CanPlay : sink.Ghosts O → Playing I O → Type 0
  CanPlay o p = IsEmpty (o.taken p.output)

  -- how it ended, on its input and its transcript
  pub record EndedSo (i : source.Ghosts I) (o : sink.Ghosts O) (old new : Playing I O) : Type 0 where
    pub items : List Item
    pub text : List ℕ
    pub read : HasRead i old.input new.input items new.ended
    pub wrote : HasWritten o old.output new.output text new.ended
    pub counts : i.faults old.input ≤ i.faults new.input
    pub named : o.name new.output ≡ o.name old.output

  -- it was played
  pub record Plays (i : source.Ghosts I) (o : sink.Ghosts O) (old new : Playing I O) : Type 0 where
    pub number : new.number ≡ old.number
    pub stays : IsSameSeat old.seat new.seat
    pub played : IsPlayed (post_of old.seat) (post_of new.seat) (i.left old.input) (o.taken new.output) new.ended
    pub ended : EndedSo i o old new

-- so many passes were split off behind others
pub record SplitsMore (room : List Home) (count : ℕ) (first last : List Sight)
    (old new : List (List Sight)) : Type 0 where
  pub more : List (List Sight)
  pub behind : new ≡ old ++ more
  pub splits : SplitsAll first more last
  pub many : length more ≡ count
  pub seated : AllByRecursion (IsPassOf room) more
