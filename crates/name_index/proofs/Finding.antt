-- What is found of a name says where it stands, and what isn't found that it stands nowhere.
use Rattle.std.proofs.Common.{◌≡◌, ◌≢◌, ◌↔◌, ℕ, zero, suc, ◌+◌, ◌<◌, ◌≤◌, Bool, true, false, cond, not, List, [], ◌∷◌, length, get_or, refl, sym, ap, ◌∙◌, Some, None, arith, nat_lt}
use Rattle.std.specs.{Prelude.{IsTrue, bytes_eq, position, ◌++◌}, List.position_or_len, Ordering.nat_cmp, Cmp.Lexicographic.slice_cmp}
use Rattle.std.{specs.BTreeMap.{BTreeMap, get, Updates}, proofs.lemmas.Bool.{cases_Bool, lt-ltb, le-ltb}, proofs.lemmas.Map.Text.is_eq-slice_cmp}
use Rattle.std.proofs.lemmas.{Slice.Eq.bytes_eq-Decides, Grind.common_steps}
use Rattle.name_index.specs.{declared.places.Places.Places, Placed.{slot, hard_hash, IsAt, AreFound, AreDistinct, StandsAt}}

-- a name of the list is found: in its slot, by its hash, or by itself
pub nowhere : (names : List (List ℕ)) (p : Places) (name : List ℕ) → AreFound names p
    → ((i : ℕ) → slot p name ≡ i + 1 → ¬ StandsAt names i name)
    → (slot p name ≢ 0 → (i : ℕ) → get nat_cmp p.hashed (hard_hash name) ≡ Some i → ¬ StandsAt names i name)
    → (slot p name ≢ 0 → get nat_cmp p.hashed (hard_hash name) ≢ None → (i : ℕ) → get (slice_cmp nat_cmp) p.named name ≡ Some i → ¬ StandsAt names i name)
    → (i : ℕ) → ¬ StandsAt names i name
nowhere names p name found in_slot by_hash by_name i at = grind (arith, common_steps)

module _ (p : List ℕ → Bool) where
  first : (xs : List (List ℕ)) (i : ℕ) → i < length xs → p (get_or xs i []) ≡ true → ((j : ℕ) → j < i → p (get_or xs j []) ≡ false) → position_or_len p xs ≡ i
  first [] i lt hit others = absurd (omega (arith, lt))
  first (x ∷ xs) zero lt hit others = ap (λ b. cond (not b) (1 + position_or_len p xs) 0) hit
  first (x ∷ xs) (suc i) lt hit others =
      let rest : position_or_len p xs ≡ i = first xs i (omega (arith, lt)) hit (λ j less. others (suc j) (omega (arith, less))) in
      ap (λ b. cond (not b) (1 + position_or_len p xs) 0) (others 0 (omega arith)) ∙ omega (arith, rest)

  never : (xs : List (List ℕ)) → ((j : ℕ) → j < length xs → p (get_or xs j []) ≡ false) → position_or_len p xs ≡ length xs
  never [] none = refl
  never (x ∷ xs) none =
      let rest : position_or_len p xs ≡ length xs = never xs (λ j less. none (suc j) (omega (arith, less))) in
      ap (λ b. cond (not b) (1 + position_or_len p xs) 0) (none 0 (omega arith)) ∙ omega (arith, rest)

other : (name k : List ℕ) → k ≢ name → bytes_eq name k ≡ false
other name k apart = grind (arith, common_steps, cases_Bool, bytes_eq-Decides)

pub position-at : (names : List (List ℕ)) (name : List ℕ) (i : ℕ) → AreDistinct names → StandsAt names i name → position (λ (k : List ℕ). bytes_eq name k) names ≡ Some i
position-at names name i distinct at = grind (arith, common_steps, first, bytes_eq-Decides, get_or, other, cond, nat_lt, length, lt-ltb)

pub position-none : (names : List (List ℕ)) (name : List ℕ) → ((i : ℕ) → ¬ StandsAt names i name) → position (λ (k : List ℕ). bytes_eq name k) names ≡ None
position-none names name none = grind (arith, common_steps, length, never, other, get_or, cond, nat_lt, le-ltb)

pub position-misses : (names : List (List ℕ)) (name : List ℕ) → position (λ (k : List ℕ). bytes_eq name k) names ≡ None → (i : ℕ) → ¬ StandsAt names i name
position-misses names name none i at =
    let within = before names i at.0 ((bytes_eq-Decides name (get_or names i [])).1 (sym at.1)) in
    let less : position_or_len (λ (k : List ℕ). bytes_eq name k) names < length names = omega (arith, within, at.0) in
    let no : Some (position_or_len (λ (k : List ℕ). bytes_eq name k) names) ≡ None = grind (arith, common_steps) in
    cc
  where
    before : (xs : List (List ℕ)) (i : ℕ) → i < length xs → bytes_eq name (get_or xs i []) ≡ true → position_or_len (λ (k : List ℕ). bytes_eq name k) xs ≤ i
    before [] i lt hit = absurd (omega (arith, lt))
    before (x ∷ xs) zero lt hit = let is = ap (λ b. cond (not b) (1 + position_or_len (λ (k : List ℕ). bytes_eq name k) xs) 0) hit in omega (arith, is)
    before (x ∷ xs) (suc i) lt hit =
        let rest = before xs i (omega (arith, lt)) hit in
        elim (bytes_eq name x) as (λ b. cond (not b) (1 + position_or_len (λ (k : List ℕ). bytes_eq name k) xs) 0 ≤ suc i) [ true ↦ omega arith | false ↦ omega (arith, rest) ]

-- a test that fails at a place
pub untold : (names : List (List ℕ)) (name : List ℕ) (j : ℕ) (b : Bool) → (IsTrue b ↔ StandsAt names j name) → b ≡ false → (i : ℕ) → i ≡ j → ¬ StandsAt names i name
untold names name j b tells fails i same at = grind (arith, common_steps)

-- ---- One name more
-- what is put in by name leaves other names
pub others-stay : (p : Places) (m : BTreeMap (List ℕ) ℕ) (key : List ℕ) (v : ℕ) → Updates (slice_cmp nat_cmp) p.named m key (Some v)
    → (n : List ℕ) (i : ℕ) → n ≢ key → IsAt p n i → IsAt (record { alloc = p.alloc; slots = p.slots; hashed = p.hashed; named = m }) n i
others-stay p m key v updates n i apart at = grind (arith, common_steps, get, cond, is_eq-slice_cmp, other)

front : (xs : List (List ℕ)) (x : List ℕ) (i : ℕ) → i < length xs → get_or (xs ++ x ∷ []) i [] ≡ get_or xs i []
front [] x i lt = absurd (omega (arith, lt))
front (y ∷ xs) x zero lt = refl
front (y ∷ xs) x (suc i) lt = front xs x i (omega (arith, lt))

last : (xs : List (List ℕ)) (x : List ℕ) → get_or (xs ++ x ∷ []) (length xs) [] ≡ x
last [] x = refl
last (y ∷ xs) x = last xs x

longer : (xs : List (List ℕ)) (x : List ℕ) → length (xs ++ x ∷ []) ≡ length xs + 1
longer [] x = refl
longer (y ∷ xs) x = let rest = longer xs x in omega (arith, rest)

-- the names of a list stay found where one is put in that isn't among them
pub still-found : (names : List (List ℕ)) (name : List ℕ) (p q : Places) → AreFound names p → ((i : ℕ) → ¬ StandsAt names i name)
    → ((n : List ℕ) (i : ℕ) → n ≢ name → IsAt p n i → IsAt q n i) → AreFound names q
still-found names name p q found new others i lt = others (get_or names i []) i (λ same. new i (lt, same)) (found i lt)

pub found-push : (names : List (List ℕ)) (name : List ℕ) (q : Places) → AreFound names q → IsAt q name (length names) → AreFound (names ++ name ∷ []) q
found-push names name q found here i lt = grind (arith, common_steps)

pub distinct-push : (names : List (List ℕ)) (name : List ℕ) → AreDistinct names → ((i : ℕ) → ¬ StandsAt names i name) → AreDistinct (names ++ name ∷ [])
distinct-push names name distinct new i j less within = grind (arith, common_steps)
