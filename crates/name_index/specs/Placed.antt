-- No public contract cites this. Where the names of a list are found.
use Rattle.std.specs.{Prelude.{◌≡◌, ◌≢◌, ◌⊎◌, ℕ, ◌+◌, ◌<◌, ◌%◌, List, [], length, get_or, Some, None}, Ordering.nat_cmp, Cmp.Lexicographic.slice_cmp}
use Rattle.std.specs.Hash.FoldHasher as fold
use Rattle.std.specs.Hash.DefaultHasher as sip
use Rattle.std.specs.BTreeMap.{get}
use Rattle.name_index.specs.declared.places.Places.{Places}

-- the two hashes of a name
abbrev pub quick_hash : List ℕ → ℕ
quick_hash name = fold.finish (fold.write fold.initial name)

abbrev pub hard_hash : List ℕ → ℕ
hard_hash name = sip.finish (sip.write sip.initial name)

-- what stands in the slot of a name: one more than a place, or 0
abbrev pub slot : Places → List ℕ → ℕ
slot places name = get_or places.slots.items (quick_hash name % length places.slots.items) 0

-- the place of a name is in its slot; or the slot is taken, and the place stands by the hard hash; or that is taken too, and it stands by the name
abbrev pub IsAt : Places → List ℕ → ℕ → Type 0
IsAt places name i = (slot places name ≡ i + 1) ⊎ ((slot places name ≢ 0) × ((get nat_cmp places.hashed (hard_hash name) ≡ Some i) ⊎ ((get nat_cmp places.hashed (hard_hash name) ≢ None) × (get (slice_cmp nat_cmp) places.named name ≡ Some i))))

-- each name of a list is found
abbrev pub AreFound : List (List ℕ) → Places → Type 0
AreFound names places = (i : ℕ) → i < length names → IsAt places (get_or names i []) i

-- no name stands twice
abbrev pub AreDistinct : List (List ℕ) → Type 0
AreDistinct names = (i j : ℕ) → i < j → j < length names → get_or names i [] ≢ get_or names j []

-- the name stands at a place
abbrev pub StandsAt : List (List ℕ) → ℕ → List ℕ → Type 0
StandsAt names i name = (i < length names) × (get_or names i [] ≡ name)
