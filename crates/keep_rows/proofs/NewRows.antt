-- The new rows of a history, entry by entry.
use Rattle.std.proofs.Common.{◌≡◌, ℕ, zero, suc, ◌+◌, List, [], ◌∷◌, ◌++◌, take, map, Some, refl, sym, ap, subst, ◌∙◌, arith, append_assoc}
use Rattle.std.{specs.Prelude.{slice_get, filter}, proofs.lemmas.List.map-append}
use Rattle.history_model.specs.declared.entries.Placed.{Placed}
use Rattle.keep_rows.{specs.Rows.{is_new, row_of}, proofs.ComesBack.filter_join}

take_more : {A : Type 0} (h : List A) (k : ℕ) (p : A) → slice_get h k ≡ Some p → take (k + 1) h ≡ take k h ++ p ∷ []
take_more [] k p is = absurd cc
take_more (x ∷ h) zero p is = let same : x ≡ p = cc in rw same refl
take_more (x ∷ h) (suc k) p is = let step : suc k + 1 ≡ suc (k + 1) = omega arith in rw step (ap (λ l. x ∷ l) (take_more h k p is))

pub rows_more : (machine : List ℕ) (h : List Placed) (k : ℕ) (p : Placed) → slice_get h k ≡ Some p
    → map (row_of machine) (filter is_new (take (k + 1) h)) ≡ map (row_of machine) (filter is_new (take k h)) ++ map (row_of machine) (filter is_new (p ∷ []))
rows_more machine h k p is =
    ap (λ (ps : List Placed). map (row_of machine) (filter is_new ps)) (take_more h k p is)
    ∙ ap (map (row_of machine)) (filter_join is_new (take k h) (p ∷ []))
    ∙ map-append (row_of machine) (filter is_new (take k h)) (filter is_new (p ∷ []))

-- one entry more was put
pub put_more : (machine seen : List ℕ) (h : List Placed) (j k : ℕ) (p : Placed) (now out before : List (List ℕ)) → seen ≡ machine → j ≡ k → Some p ≡ slice_get h j
    → now ≡ out ++ map (row_of seen) (filter is_new (p ∷ [])) → out ≡ before ++ map (row_of machine) (filter is_new (take k h))
    → now ≡ before ++ map (row_of machine) (filter is_new (take (k + 1) h))
put_more machine seen h j k p now out before same_name same_place at put were =
    let there : slice_get h k ≡ Some p = subst (λ (i : ℕ). slice_get h i ≡ Some p) same_place (sym at) in
    put ∙ ap (λ (m : List ℕ). out ++ map (row_of m) (filter is_new (p ∷ []))) same_name
    ∙ ap (λ (o : List (List ℕ)). o ++ map (row_of machine) (filter is_new (p ∷ []))) were
    ∙ append_assoc before (map (row_of machine) (filter is_new (take k h))) (map (row_of machine) (filter is_new (p ∷ [])))
    ∙ ap (λ (more : List (List ℕ)). before ++ more) (sym (rows_more machine h k p there))
