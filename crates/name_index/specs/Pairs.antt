-- What is found of a pair of names.
use Rattle.std.specs.{Prelude.{◌≡◌, ℕ, Bool, ◌&&◌, List, [], if◌then◌else◌, unwrap_or, Option, Some}, Ordering.{nat_cmp, is_eq}, Cmp.Lexicographic.slice_cmp}
use Rattle.name_index.specs.Found.{found}

-- whether two names are equal, by their order
abbrev pub is_same : List ℕ → List ℕ → Bool
is_same one other = is_eq (slice_cmp nat_cmp one other)

-- names, and what belongs to each; pairs of names, by the first ones
abbrev pub Named : Type 0 → Type 0
Named T = List (List ℕ × T)

abbrev pub Pairs : Type 0 → Type 0
Pairs T = Named (Named T)

module _ {T : Type 0} where
  -- what is found of a name
  abbrev pub found_name : List ℕ → Named T → Option T
  found_name name es = found (slice_cmp nat_cmp) name es

  -- of a pair, among the second names of the first one
  abbrev pub found_pair : List ℕ → List ℕ → Pairs T → Option T
  found_pair first second es = found_name second (unwrap_or (found (slice_cmp nat_cmp) first es) [])

  -- afterwards this is found of a pair, and of each other what was found before
  abbrev pub IsPairWritten : List ℕ → List ℕ → Option T → Pairs T → Pairs T → Type 0
  IsPairWritten first second value before after =
      (f s : List ℕ) → found_pair f s after ≡ (if is_same first f && is_same second s then value else found_pair f s before)

  -- the same, of a pair of which something was found before
  abbrev pub IsPairWrittenThere : List ℕ → List ℕ → Pairs T → T → Pairs T → Type 0
  IsPairWrittenThere first second before value after = (v : T) → Some v ≡ found_pair first second before → IsPairWritten first second (Some value) before after
