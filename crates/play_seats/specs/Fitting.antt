-- A shared run of scripts alone, from the room's first pass to the machines that it leaves.
use Rattle.std.specs.{Prelude.{◌≡◌, ◌⊎◌, ◌≤◌, ◌+◌, ℕ, List, [], ◌∷◌, Some, None, Result}, List.{AllByRecursion, AllZip}}
use Rattle.history_model.specs.{Allowed.Legal, Entries.entries_of, declared.entries.Author.TheVariants.Script}
use Rattle.track_model.specs.Tracks.{Track}
use Rattle.track_room.specs.{Rooms.IsPassOf, Sights.{EndsWhole, Home, Sight}}
use Rattle.script_loop.specs.declared.stop.Stop.{Stop}
use Rattle.play_fits.specs.{Fits.{Fits, Play, Played}, Workers.Asked}
use Rattle.play_script.specs.Played.{IsPlayed, in_full}
use Rattle.play_seats.specs.{Gathered.AreKept, Seats.{AreDifferent, Seat, post_of}, Shared.IsShared}

-- the seat of a script of this number before it is played
abbrev pub seat_at : List Home → ℕ → List Sight → Seat
seat_at room n pass = record { author = Script n; room = room; pass = pass }

-- the script of this number was played, from this pass to this seat
pub record IsPlayedAt (room : List Home) (n : ℕ) (s : Played) (before : List Sight) (after : Seat)
    : Type 0 where
  pub author : after.author ≡ Script n
  pub result : Result (Unit {0}) Stop
  pub full : s.full ≡ in_full result
  pub played : IsPlayed (post_of (seat_at room n before)) (post_of after) s.script s.transcript result

-- so were the scripts from this number on
abbrev pub ArePlayedFrom : List Home → ℕ → List Played → List (List Sight) → List Seat → Type 0
ArePlayedFrom room n [] [] [] = Unit {0}
ArePlayedFrom room n (s ∷ ss) (b ∷ bs) (a ∷ us) =
    IsPlayedAt room n s b a × ArePlayedFrom room (n + 1) ss bs us
ArePlayedFrom room n ss bs us = ⊥

-- a runner that isn't asked
pub record IsUnasked (r : Asked) : Type 0 where
  pub asks : (r.asks ≡ None) ⊎ (r.asks ≡ Some [])
  pub counts : r.before ≤ r.after

pub record RunsScripts (play : Play) (journals : List Track) : Type 0 where
  pub room : List Home
  pub different : AreDifferent room
  pub first : List Sight
  pub last : List Sight
  pub befores : List (List Sight)
  pub afters : List Seat
  pub shared : IsShared play.tracks room befores afters first last
  pub of_room : IsPassOf room last
  pub kept : AllByRecursion AreKept play.tracks
  pub played : ArePlayedFrom room 1 play.scripts befores afters
  pub ended : AllZip EndsWhole last journals
  pub legal : AllByRecursion (λ (t : Track). Legal (entries_of t.history)) journals
  pub no_recomputing : play.recompute ≡ 0
  pub no_bisecting : play.bisect ≡ 0
  pub unasked : AllByRecursion IsUnasked play.runners

-- such a run fits the journals of the machines that it leaves
abbrev pub RunOfScriptsFits : Type 0
RunOfScriptsFits = (play : Play) (journals : List Track) → RunsScripts play journals → Fits play journals
