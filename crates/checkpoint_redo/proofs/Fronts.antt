-- The values of the positions that two lists have in common at their front.
use Rattle.std.proofs.Common.{◌≡◌, Result, Ok, Err, OnErr, ℕ, ℤ, suc, ◌+◌, ◌≤◌, Bool, true, false, ◌&&◌, List, [], ◌∷◌, length, take, refl, sym, ap₂, true≢false, inl, inr, arith}
use Rattle.std.{specs.Cmp.Rules.signed_items, proofs.lemmas.Bool.cases_Bool, proofs.lemmas.Grind.common_steps}
use Rattle.segment_model.specs.{Segments.{Position, position_values}, Edits.same_position, Values.values_by_position}
use Rattle.pelt_core.specs.Seen.{Tabled, table_of}
use Rattle.point_list.{specs.Places.common, proofs.CommonFirst.same-values}

second : (s t : Bool) → (s && t) ≡ true → t ≡ true
second true t h = h
second false t h = absurd (true≢false (sym h))

-- the same positions have the same values
same-values-at : (p q : Position) → same_position p q ≡ true → position_values p ≡ position_values q
same-values-at p q same = grind (arith, common_steps, second, signed_items, same-values)

-- the positions in common stand in both
pub common-within : (a b : List Position) → (common a b ≤ length a) × (common a b ≤ length b)
common-within [] b = (omega arith, omega arith)
common-within (p ∷ a) [] = (omega arith, omega arith)
common-within (p ∷ a) (q ∷ b) = grind (arith, common_steps, common-within a b)

-- and have the same values in both
pub same-front : (a b : List Position) → take (common a b) (values_by_position a) ≡ take (common a b) (values_by_position b)
same-front [] b = refl
same-front (p ∷ a) [] = refl
same-front (p ∷ a) (q ∷ b) = elim (cases_Bool (same_position p q)) [
  | inl same ↦
      let step : common a b + 1 ≡ suc (common a b) = omega arith in
      rw (same, step) (ap₂ (λ v vs. v ∷ vs) (same-values-at p q same) (same-front a b))
  | inr other ↦ rw other refl
]

-- what a table of the old ones has in common with the new ones at its front
pub front-first : (old new : List Position) (k : ℕ) (ps : List (List ℤ)) → k ≡ common old new → ps ≡ values_by_position old → take k ps ≡ take k (values_by_position new)
front-first old new k ps is stands = grind (arith, common_steps, take, same-front)

-- a table of first positions is that of as many as it has
pub first-table : (new : List Position) (i : ℕ) (t : Tabled) (b : ℤ) (len : ℕ) → i ≤ length new → t ≡ table_of (take i (values_by_position new)) b len
    → t ≡ table_of (take (length t.positions) (values_by_position new)) b len
first-table new i t b len low are = grind (arith, common_steps)

pub any-err : {T E P : Type 0} (r : Result T E) → P → OnErr r P
any-err (Ok x) p = tt
any-err (Err e) p = p
