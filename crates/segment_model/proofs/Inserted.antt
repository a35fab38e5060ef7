-- How many values and positions there are where a value is put in.
use Rattle.std.proofs.Common.{◌≡◌, ℕ, ◌+◌, ◌≤◌, true, false, cond, List, [], ◌∷◌, ◌++◌, length, refl, sym, ap, subst, ◌∙◌, inl, inr, arith}
use Rattle.std.proofs.lemmas.{Bool.{cases_order, lt-ltb, le-ltb, eq-eqb, ne_eqb}, List.{length_push, append_assoc, append-nil}, Grind.common_steps}
use Rattle.segment_model.specs.{Segments.{Observation, Position, values_of}, Edits.{inserted, has_commit}}
use Rattle.segment_model.{specs.Brought.{Brought, observed, positions_of}, proofs.Insertions.positions-push}

-- one value more
pub count-inserted : (commit : ℕ) (x : Observation) (points : List Position) → length (values_of (inserted commit x points)) ≡ length (values_of points) + 1
count-inserted commit x [] = refl
count-inserted commit x (p ∷ points) = grind (arith, common_steps, count-inserted commit x points)

-- as many positions, or one more
size-between : (commit : ℕ) (x : Observation) (points : List Position) → (length points ≤ length (inserted commit x points)) × (length (inserted commit x points) ≤ length points + 1)
size-between commit x [] = (omega arith, omega arith)
size-between commit x (p ∷ points) = grind (arith, common_steps, size-between commit x points)

pub size-grows : (commit : ℕ) (x : Observation) (points : List Position) → length points ≤ length (inserted commit x points)
size-grows commit x points = (size-between commit x points).0

pub size-inserted : (commit : ℕ) (x : Observation) (points : List Position) → length (inserted commit x points) ≤ length points + 1
size-inserted commit x points = (size-between commit x points).1

-- one position more, where the commit has none
pub size-new : (commit : ℕ) (x : Observation) (points : List Position) → has_commit commit points ≡ false → length (inserted commit x points) ≡ length points + 1
size-new commit x [] none = refl
size-new commit x (p ∷ points) none = elim (cases_order commit p.commit) [
  | inl same ↦ absurd (let no : true ≡ false = sym (ap (λ b. cond b true (has_commit commit points)) (eq-eqb p.commit commit (sym same))) ∙ none in cc)
  | inr other ↦ elim other [
    | inl below ↦ rw (lt-ltb commit p.commit below) (omega arith)
    | inr above ↦ rw (le-ltb commit p.commit (omega (arith, above)), ne_eqb p.commit commit (λ e. omega (arith, e, above))) (
        let rest = size-new commit x points (sym (ap (λ b. cond b true (has_commit commit points)) (ne_eqb p.commit commit (λ e. omega (arith, e, above)))) ∙ none) in omega (arith, rest))
  ]
]

-- as many values as were brought
pub values-brought : (items : List Brought) → length (values_of (positions_of items)) ≡ length items
values-brought items = go [] items refl
  where
    go : (front back : List Brought) → length (values_of (positions_of front)) ≡ length front → length (values_of (positions_of (front ++ back))) ≡ length (front ++ back)
    go front [] is = subst (λ (xs : List Brought). length (values_of (positions_of xs)) ≡ length xs) (sym (append-nil front)) is
    go front (x ∷ back) is =
        let pushed : length (values_of (positions_of (front ++ x ∷ []))) ≡ length (front ++ x ∷ []) =
        ap (λ ps. length (values_of ps)) (positions-push front x) ∙ count-inserted x.commit (observed x) (positions_of front)
        ∙ ap (λ n. n + 1) is ∙ sym (length_push front x) in
        subst (λ (xs : List Brought). length (values_of (positions_of xs)) ≡ length xs) (append_assoc front (x ∷ []) back) (go (front ++ x ∷ []) back pushed)
