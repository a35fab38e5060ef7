-- Lists that are equal: item by item, and those in a strict order with the same members.
use Rattle.std.proofs.Common.{◌≡◌, ◌⊎◌, inl, inr, ℕ, suc, ◌<◌, Ordering, Less, List, [], ◌∷◌, length, get_or, refl, sym, ap, subst, ◌∙◌, arith}
use Rattle.std.{specs.Cmp.IsTotalOrder, specs.Prelude.Contains, specs.List.Sorted.IsStrictlySortedBy, proofs.lemmas.Map.Keys.sorted_tail}
use Rattle.history_model.proofs.Members.{here, behind, either, none-in-nil, later, not-both}

pub same-items : {A : Type 0} (xs ys : List A) → length xs ≡ length ys → ((i : ℕ) (d : A) → i < length xs → get_or xs i d ≡ get_or ys i d) → xs ≡ ys
same-items [] [] size each = refl
same-items [] (y ∷ ys) size each = absurd (let no : 0 ≡ length (y ∷ ys) = size in omega (arith, no))
same-items (x ∷ xs) [] size each = absurd (let no : length (x ∷ xs) ≡ 0 = size in omega (arith, no))
same-items (x ∷ xs) (y ∷ ys) size each =
    let rest = same-items xs ys (omega (arith, size)) (λ i d lt. each (suc i) d (omega (arith, lt))) in
    ap (λ z. z ∷ xs) (each 0 x (omega arith)) ∙ ap (λ zs. y ∷ zs) rest

-- ---- lists in a strict order with the same members

-- what stands in one list stands in the other
abbrev Within : {A : Type 0} → List A → List A → Type 0
Within {A} xs ys = (x : A) → Contains xs x → Contains ys x

module _ {A : Type 0} {R : A → A → Ordering} (order : IsTotalOrder R) where
  first-same : (x y : A) (xs ys : List A) → IsStrictlySortedBy R (x ∷ xs) → IsStrictlySortedBy R (y ∷ ys) → (x ≡ y) ⊎ Contains xs y → (y ≡ x) ⊎ Contains ys x → x ≡ y
  first-same x y xs ys up up' (inl same) other = same
  first-same x y xs ys up up' (inr has) (inl same) = sym same
  first-same x y xs ys up up' (inr has) (inr has') = absurd (not-both order x y (later R x xs y up has) (later R y ys x up' has'))

  not-first : (x s : A) (xs ys : List A) → IsStrictlySortedBy R (x ∷ xs) → Contains xs s → (x ≡ s) ⊎ Contains ys s → Contains ys s
  not-first x s xs ys up has (inl same) =
      let before : R x x ≡ Less = subst (λ (t : A). R x t ≡ Less) (sym same) (later R x xs s up has) in
      absurd (not-both order x x before before)
  not-first x s xs ys up has (inr found) = found

  rest-within : (x y : A) (xs ys : List A) → x ≡ y → IsStrictlySortedBy R (x ∷ xs) → Within (x ∷ xs) (y ∷ ys) → Within xs ys
  rest-within x y xs ys same up within s has =
      not-first x s xs ys up has (either s x ys (subst (λ (t : A). Contains (t ∷ ys) s) (sym same) (within s (behind s x xs has))))

  pub same-members : (xs ys : List A) → IsStrictlySortedBy R xs → IsStrictlySortedBy R ys → Within xs ys → Within ys xs → xs ≡ ys
  same-members [] [] up up' within back = refl
  same-members [] (y ∷ ys) up up' within back = absurd (none-in-nil y (back y (here y ys)))
  same-members (x ∷ xs) [] up up' within back = absurd (none-in-nil x (within x (here x xs)))
  same-members (x ∷ xs) (y ∷ ys) up up' within back =
      let same = first-same x y xs ys up up' (either y x xs (back y (here y ys))) (either x y ys (within x (here x xs))) in
      let rest = same-members xs ys (sorted_tail R x xs up) (sorted_tail R y ys up') (rest-within x y xs ys same up within) (rest-within y x ys xs (sym same) up' back) in
      ap (λ (s : A). s ∷ xs) same ∙ ap (λ (more : List A). y ∷ more) rest
