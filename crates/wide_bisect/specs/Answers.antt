-- What a round of answers says of its places.
use Rattle.std.specs.{Prelude.{ℕ, Bool, true, false, not, ◌&&◌, ◌==◌, nat_le, max, min, List, Option, Some, None, map, filter, find, fold}, List.list_any}
use Rattle.wide_bisect.specs.declared.said.Said.{Said}

abbrev pub status_ends : Option ℕ → Bool
status_ends None = true
status_ends (Some status) = nat_le 128 status

abbrev pub status_is : ℕ → Option ℕ → Bool
status_is wanted None = false
status_is wanted (Some status) = status == wanted

-- no test could be had, or its status is 128 or more: this ends the search
abbrev pub is_end : Said → Bool
is_end said = status_ends said.status

-- a status of 0 is good
abbrev pub is_good : Said → Bool
is_good said = status_is 0 said.status

-- at 125 nothing can be said of the place, and it is passed over
abbrev pub is_skipped : Said → Bool
is_skipped said = status_is 125 said.status

-- every other status is bad
abbrev pub is_bad : Said → Bool
is_bad said = not (is_end said) && not (is_good said) && not (is_skipped said)

abbrev pub place_of : Said → ℕ
place_of said = said.place

-- the places answered good, bad and 125, in order
abbrev pub good_places : List Said → List ℕ
good_places said = map place_of (filter is_good said)

abbrev pub bad_places : List Said → List ℕ
bad_places said = map place_of (filter is_bad said)

abbrev pub skipped_places : List Said → List ℕ
skipped_places said = map place_of (filter is_skipped said)

-- the answer that ends the search, at the least place, since the places of a round rise
abbrev pub ending : List Said → Option Said
ending said = find is_end said

-- the greatest of a number and others
abbrev pub greatest : ℕ → List ℕ → ℕ
greatest n xs = fold max n xs

-- the least of a number and others
abbrev pub least : ℕ → List ℕ → ℕ
least n xs = fold min n xs

-- whether a number is among others
abbrev pub is_among : ℕ → List ℕ → Bool
is_among n xs = list_any (λ x. x == n) xs
