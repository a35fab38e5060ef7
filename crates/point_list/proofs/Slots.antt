-- What becomes of positions in slots where one is written, comes or goes.
use Rattle.std.proofs.Common.{◌≡◌, ◌≢◌, ℕ, zero, suc, ◌+◌, ◌-◌, ◌<◌, ◌≤◌, cond, List, [], ◌∷◌, ◌++◌, length, map, set, get_or, refl, sym, ap, ap₂, subst, ◌∙◌, inl, inr, arith}
use Rattle.std.{specs.Prelude.{insert, remove}, specs.List.swap_remove, proofs.lemmas.Bool.{cases_eq, eq-eqb, ne_eqb}, proofs.lemmas.Grind.common_steps}
use Rattle.std.proofs.lemmas.List.{length_push, length-set, length-take, length-map, get_or-set_same, get_or-set_other, get_or_append_left, get_or_push, get_or-take, get_or_default}
use Rattle.std.proofs.lemmas.List.Edits.{length-insert, length-remove}
use Rattle.segment_model.specs.Segments.{Position}
use Rattle.point_list.specs.Slots.{in_slot, in_order, AreBelow, IsMissing, AreOnce, IsOrder, renamed}

abbrev nowhere : Position
nowhere = record { commit = 0; samples = [] }

-- ---- slots at places
pub below-at : (n : ℕ) (order : List ℕ) (i d : ℕ) → AreBelow n order → i < length order → get_or order i d < n
below-at n [] i d below lt = absurd (omega arith)
below-at n (s ∷ order) zero d below lt = below.0
below-at n (s ∷ order) (suc i) d below lt = below-at n order i d below.1 (omega arith)

missing-at : (s : ℕ) (order : List ℕ) (i d : ℕ) → IsMissing s order → i < length order → get_or order i d ≢ s
missing-at s [] i d missing lt = absurd (omega arith)
missing-at s (t ∷ order) zero d missing lt = missing.0
missing-at s (t ∷ order) (suc i) d missing lt = missing-at s order i d missing.1 (omega arith)

pub at-order : (slots : List Position) (order : List ℕ) (i : ℕ) (d e : Position) → AreBelow (length slots) order → i < length order
    → get_or slots (get_or order i 0) e ≡ get_or (in_order slots order) i d
at-order slots [] i d e below lt = absurd (omega arith)
at-order slots (s ∷ order) zero d e below lt = get_or_default slots s e nowhere below.0
at-order slots (s ∷ order) (suc i) d e below lt = at-order slots order i d e below.1 (omega arith)

pub order-length : (slots : List Position) (order : List ℕ) (points : List Position) → in_order slots order ≡ points → length order ≡ length points
order-length slots order points view = sym (length-map order (in_slot slots)) ∙ ap length view

-- the position that was read at the slot of a place
pub order-read : (slots : List Position) (order : List ℕ) (points : List Position) (i slot : ℕ) (p d : Position) → IsOrder slots order → in_order slots order ≡ points → i < length order
    → slot ≡ get_or order i 0 → p ≡ get_or slots slot p → p ≡ get_or points i d
order-read slots order points i slot p d is view lt slot_is read = grind (arith, common_steps, get_or, at-order)

-- ---- a position is written
unwritten : (slots : List Position) (order : List ℕ) (s : ℕ) (p : Position) → IsMissing s order → in_order (set slots s p) order ≡ in_order slots order
unwritten slots [] s p missing = refl
unwritten slots (t ∷ order) s p missing = ap₂ (λ q ps. q ∷ ps) (get_or-set_other slots s t p nowhere missing.0) (unwritten slots order s p missing.1)

pub order-set : (slots : List Position) (order : List ℕ) (place d : ℕ) (p : Position) → AreBelow (length slots) order → AreOnce order → place < length order
    → in_order (set slots (get_or order place d) p) order ≡ set (in_order slots order) place p
order-set slots [] place d p below once lt = absurd (omega arith)
order-set slots (s ∷ order) zero d p below once lt = ap₂ (λ q ps. q ∷ ps) (get_or-set_same slots s p nowhere below.0) (unwritten slots order s p once.0)
order-set slots (s ∷ order) (suc place) d p below once lt =
    ap₂ (λ q ps. q ∷ ps)
    (get_or-set_other slots (get_or order place d) s p nowhere (λ e. missing-at s order place d once.0 (omega arith) (sym e)))
    (order-set slots order place d p below.1 once.1 (omega arith))

-- ---- a position comes
map-insert : {A B : Type 0} (f : A → B) (xs : List A) (i : ℕ) (x : A) → map f (insert xs i x) ≡ insert (map f xs) i (f x)
map-insert f [] zero x = refl
map-insert f [] (suc i) x = refl
map-insert f (y ∷ xs) zero x = refl
map-insert f (y ∷ xs) (suc i) x = ap (λ ys. f y ∷ ys) (map-insert f xs i x)

unpushed : (slots : List Position) (order : List ℕ) (p : Position) → AreBelow (length slots) order → in_order (slots ++ p ∷ []) order ≡ in_order slots order
unpushed slots [] p below = refl
unpushed slots (s ∷ order) p below = ap₂ (λ q ps. q ∷ ps) (get_or_append_left slots (p ∷ []) nowhere s below.0) (unpushed slots order p below.1)

pub order-insert : (slots : List Position) (order : List ℕ) (place : ℕ) (p : Position) → AreBelow (length slots) order
    → in_order (slots ++ p ∷ []) (insert order place (length slots)) ≡ insert (in_order slots order) place p
order-insert slots order place p below = grind (arith, common_steps, map-insert, length, ap₂, insert, unpushed, get_or_push, nowhere)

below-weaker : (n m : ℕ) (order : List ℕ) → n ≤ m → AreBelow n order → AreBelow m order
below-weaker n m [] le below = tt
below-weaker n m (s ∷ order) le below = (omega (arith, below.0, le), below-weaker n m order le below.1)

below-insert : (n : ℕ) (order : List ℕ) (i s : ℕ) → AreBelow n order → s < n → AreBelow n (insert order i s)
below-insert n [] zero s below lt = (lt, tt)
below-insert n [] (suc i) s below lt = (lt, tt)
below-insert n (t ∷ order) zero s below lt = (lt, below)
below-insert n (t ∷ order) (suc i) s below lt = (below.0, below-insert n order i s below.1 lt)

missing-above : (n : ℕ) (order : List ℕ) → AreBelow n order → IsMissing n order
missing-above n [] below = tt
missing-above n (s ∷ order) below = ((λ e. omega (arith, e, below.0)), missing-above n order below.1)

missing-insert : (t : ℕ) (order : List ℕ) (i s : ℕ) → IsMissing t order → s ≢ t → IsMissing t (insert order i s)
missing-insert t [] zero s missing other = (other, tt)
missing-insert t [] (suc i) s missing other = (other, tt)
missing-insert t (u ∷ order) zero s missing other = (other, missing)
missing-insert t (u ∷ order) (suc i) s missing other = (missing.0, missing-insert t order i s missing.1 other)

once-insert : (order : List ℕ) (i s : ℕ) → AreOnce order → IsMissing s order → AreOnce (insert order i s)
once-insert [] zero s once missing = (tt, tt)
once-insert [] (suc i) s once missing = (tt, tt)
once-insert (t ∷ order) zero s once missing = (missing, once)
once-insert (t ∷ order) (suc i) s once missing = (missing-insert t order i s once.0 (λ e. missing.0 (sym e)), once-insert order i s once.1 missing.1)

pub order-longer : (slots : List Position) (order : List ℕ) (place : ℕ) (p : Position) → IsOrder slots order → place ≤ length order → length order < 16_384
    → IsOrder (slots ++ p ∷ []) (insert order place (length slots))
order-longer slots order place p is within few =
    let n : length (slots ++ p ∷ []) ≡ length slots + 1 = length_push slots p in
    record {
      few = omega (arith, n, few, is.as_many);
      as_many = omega (arith, n, is.as_many, length-insert order place (length slots) within);
      below = rw n (below-insert (length slots + 1) order place (length slots) (below-weaker (length slots) (length slots + 1) order (omega arith) is.below) (omega arith));
      once = once-insert order place (length slots) is.once (missing-above (length slots) order is.below);
    }

-- ---- a position goes
map-remove : {A B : Type 0} (f : A → B) (xs : List A) (i : ℕ) → map f (remove xs i) ≡ remove (map f xs) i
map-remove f [] zero = refl
map-remove f [] (suc i) = refl
map-remove f (y ∷ xs) zero = refl
map-remove f (y ∷ xs) (suc i) = ap (λ ys. f y ∷ ys) (map-remove f xs i)

below-remove : (n : ℕ) (order : List ℕ) (i : ℕ) → AreBelow n order → AreBelow n (remove order i)
below-remove n [] zero below = tt
below-remove n [] (suc i) below = tt
below-remove n (t ∷ order) zero below = below.1
below-remove n (t ∷ order) (suc i) below = (below.0, below-remove n order i below.1)

missing-remove : (t : ℕ) (order : List ℕ) (i : ℕ) → IsMissing t order → IsMissing t (remove order i)
missing-remove t [] zero missing = tt
missing-remove t [] (suc i) missing = tt
missing-remove t (u ∷ order) zero missing = missing.1
missing-remove t (u ∷ order) (suc i) missing = (missing.0, missing-remove t order i missing.1)

once-remove : (order : List ℕ) (i : ℕ) → AreOnce order → AreOnce (remove order i)
once-remove [] zero once = tt
once-remove [] (suc i) once = tt
once-remove (t ∷ order) zero once = once.1
once-remove (t ∷ order) (suc i) once = (missing-remove t order i once.0, once-remove order i once.1)

missing-removed : (order : List ℕ) (i d : ℕ) → AreOnce order → i < length order → IsMissing (get_or order i d) (remove order i)
missing-removed [] i d once lt = absurd (omega arith)
missing-removed (t ∷ order) zero d once lt = once.0
missing-removed (t ∷ order) (suc i) d once lt = ((λ e. missing-at t order i d once.0 (omega arith) (sym e)), missing-removed order i d once.1 (omega arith))

renamed-same : (from to s : ℕ) → s ≡ from → renamed from to s ≡ to
renamed-same from to s same = ap (λ b. cond b to s) (eq-eqb s from same)

renamed-other : (from to s : ℕ) → s ≢ from → renamed from to s ≡ s
renamed-other from to s other = ap (λ b. cond b to s) (ne_eqb s from other)

-- a slot and the last one, whose position moves into it
module _ (slots : List Position) (last s : ℕ) (r : Position) (is_last : last + 1 ≡ length slots) (within : s < length slots) where
  abbrev pub fewer : List Position
  fewer = swap_remove slots s r

  end : length slots - 1 ≡ last
  end = omega (arith, is_last)

  pub fewer-length : length fewer ≡ last
  fewer-length = omega (arith, is_last, length-take (length slots - 1) (set slots s (get_or slots (length slots - 1) r)), length-set slots s (get_or slots (length slots - 1) r))

  read : (e : ℕ) → e < last → get_or fewer e nowhere ≡ get_or (set slots s (get_or slots last r)) e nowhere
  read e lt =
      get_or-take (length slots - 1) (set slots s (get_or slots (length slots - 1) r)) e nowhere (omega (arith, lt, end))
      ∙ ap (λ n. get_or (set slots s (get_or slots n r)) e nowhere) end

  moved : (e : ℕ) → e < length slots → e ≢ s → in_slot fewer (renamed last s e) ≡ in_slot slots e
  moved e lt other = elim (cases_eq e last) [
    | inl same ↦
        ap (in_slot fewer) (renamed-same last s e same)
        ∙ read s (omega (arith, same, other, within, is_last))
        ∙ get_or-set_same slots s (get_or slots last r) nowhere within
        ∙ get_or_default slots last r nowhere (omega (arith, is_last))
        ∙ ap (in_slot slots) (sym same)
    | inr apart ↦
        ap (in_slot fewer) (renamed-other last s e apart)
        ∙ read e (omega (arith, apart, lt, is_last))
        ∙ get_or-set_other slots s e (get_or slots last r) nowhere other
  ]

  all-moved : (order : List ℕ) → AreBelow (length slots) order → IsMissing s order → in_order fewer (map (renamed last s) order) ≡ in_order slots order
  all-moved [] below missing = refl
  all-moved (e ∷ order) below missing = ap₂ (λ q ps. q ∷ ps) (moved e below.0 missing.0) (all-moved order below.1 missing.1)

  below-renamed : (order : List ℕ) → AreBelow (length slots) order → IsMissing s order → AreBelow last (map (renamed last s) order)
  below-renamed [] below missing = tt
  below-renamed (e ∷ order) below missing = (
    elim (cases_eq e last) [
      | inl same ↦ rw (renamed-same last s e same) (omega (arith, same, missing.0, within, is_last))
      | inr apart ↦ rw (renamed-other last s e apart) (omega (arith, apart, below.0, is_last))
    ],
    below-renamed order below.1 missing.1,
  )

  apart-renamed : (e t : ℕ) → e ≢ t → e ≢ s → t ≢ s → renamed last s e ≢ renamed last s t
  apart-renamed e t other no_e no_t = elim (cases_eq e last) [
    | inl same ↦ elim (cases_eq t last) [
      | inl also ↦ absurd (other (same ∙ sym also))
      | inr apart ↦ λ eq. no_t (sym (renamed-other last s t apart) ∙ sym eq ∙ renamed-same last s e same)
    ]
    | inr alone ↦ elim (cases_eq t last) [
      | inl also ↦ λ eq. no_e (sym (renamed-other last s e alone) ∙ eq ∙ renamed-same last s t also)
      | inr apart ↦ λ eq. other (sym (renamed-other last s e alone) ∙ eq ∙ renamed-other last s t apart)
    ]
  ]

  missing-renamed : (t : ℕ) (order : List ℕ) → t ≢ s → IsMissing t order → IsMissing s order → IsMissing (renamed last s t) (map (renamed last s) order)
  missing-renamed t [] other missing free = tt
  missing-renamed t (e ∷ order) other missing free = (apart-renamed e t missing.0 free.0 other, missing-renamed t order other missing.1 free.1)

  once-renamed : (order : List ℕ) → AreOnce order → IsMissing s order → AreOnce (map (renamed last s) order)
  once-renamed [] once missing = tt
  once-renamed (t ∷ order) once missing = (missing-renamed t order missing.0 once.0 missing.1, once-renamed order once.1 missing.1)

-- a place whose slot is given back
module _ (slots : List Position) (order : List ℕ) (place last s : ℕ) (r : Position) (is : IsOrder slots order) (lt : place < length order) (is_last : last + 1 ≡ length slots) (s_is : s ≡ get_or order place s) where
  within : s < length slots
  within = omega (arith, s_is, below-at (length slots) order place s is.below lt)

  below : AreBelow (length slots) (remove order place)
  below = below-remove (length slots) order place is.below

  missing : IsMissing s (remove order place)
  missing = subst (λ t. IsMissing t (remove order place)) (sym s_is) (missing-removed order place s is.once lt)

  pub order-remove : in_order (swap_remove slots s r) (map (renamed last s) (remove order place)) ≡ remove (in_order slots order) place
  order-remove = all-moved slots last s r is_last within (remove order place) below missing ∙ map-remove (in_slot slots) order place

  pub order-shorter : IsOrder (swap_remove slots s r) (map (renamed last s) (remove order place))
  order-shorter =
      let n : length (swap_remove slots s r) ≡ last = fewer-length slots last s r is_last within in
      record {
        few = omega (arith, n, is_last, is.few);
        as_many = omega (arith, n, is_last, is.as_many, length-map (remove order place) (renamed last s), length-remove order place lt);
        below = rw n (below-renamed slots last s r is_last within (remove order place) below missing);
        once = once-renamed slots last s r is_last within (remove order place) (once-remove order place is.once) missing;
      }
