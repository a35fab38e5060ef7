-- What was said of the places of a bisection, one after another.
use Rattle.std.specs.Prelude.{ℕ, Bool, true, not, ◌&&◌, ◌||◌, ◌==◌, nat_le, if◌then◌else◌, max, min, List, [], ◌∷◌, Option, find}

-- what was said of a place: the status of its test, or that no test of it could be had
pub data Turn : Type 0 where
  tested : ℕ → ℕ → Turn
  given_up : ℕ → Turn

abbrev pub place_of : Turn → ℕ
place_of (tested place status) = place
place_of (given_up place) = place

-- a status of 0 is good
abbrev pub is_good : ℕ → Bool
is_good status = status == 0

-- at 125, and from 128 on, nothing can be said of the place, and the bisection ends
abbrev pub is_untestable : ℕ → Bool
is_untestable status = (status == 125) || nat_le 128 status

-- every other status is bad
abbrev pub is_bad : ℕ → Bool
is_bad status = not (is_good status) && not (is_untestable status)

-- whether a turn ends the bisection
abbrev pub is_end : Turn → Bool
is_end (tested place status) = is_untestable status
is_end (given_up place) = true

-- the places whose tests gave such a status, in order
abbrev pub places_by : (ℕ → Bool) → List Turn → List ℕ
places_by is [] = []
places_by is (tested place status ∷ turns) = if is status then place ∷ places_by is turns else places_by is turns
places_by is (given_up place ∷ turns) = places_by is turns

-- the places answered good, and those answered bad
abbrev pub good_places : List Turn → List ℕ
good_places turns = places_by is_good turns

abbrev pub bad_places : List Turn → List ℕ
bad_places turns = places_by is_bad turns

-- the turn that ended it, if there is one
abbrev pub ending : List Turn → Option Turn
ending turns = find is_end turns

-- the greatest of 0 and some numbers
abbrev pub greatest : List ℕ → ℕ
greatest [] = 0
greatest (x ∷ xs) = max x (greatest xs)

-- the least of a number and others
abbrev pub least : ℕ → List ℕ → ℕ
least n [] = n
least n (x ∷ xs) = min x (least n xs)
