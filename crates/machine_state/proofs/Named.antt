-- The number of a commit that is declared has a name.
use Rattle.std.proofs.Common.{◌≡◌, ℕ, Bool, true, false, cond, List, [], ◌∷◌, refl, sym, ap, subst, ◌∙◌, Option, Some, None, inl, inr}
use Rattle.std.{specs.Prelude.{IsSome, find, option_map, unwrap_or}, proofs.lemmas.Bool.{cases_Bool, eq-eqb}}
use Rattle.history_model.specs.declared.entries.{Declaration.Declaration, Entry.Entry}
use Rattle.history_model.specs.Commits.{declarations, has_number, has_name, number_of, name_of}

found-again : {A : Type 0} (p q : A → Bool) (xs : List A) (d : A) → find p xs ≡ Some d → q d ≡ true → IsSome (find q xs)
found-again p q [] d found passes = absurd (cc)
found-again p q (x ∷ xs) d found passes = elim (cases_Bool (q x)) [
  | inl hit ↦ let P : Bool → Type 0 = λ b. IsSome (cond b (Some x) (find q xs)) in subst P (sym hit) refl
  | inr miss ↦
      let P : Bool → Type 0 = λ b. IsSome (cond b (Some x) (find q xs)) in
      subst P (sym miss) (elim (cases_Bool (p x)) [
        | inl first ↦ absurd (
            let is : x ≡ d = cc in
            cc)
        | inr later ↦ found-again p q xs d (sym (ap (λ b. cond b (Some x) (find p xs)) later) ∙ found) passes
      ])
]

-- the number of a commit that is declared has a name
pub number-is-named : (h : List Entry) (commit : List ℕ) → IsSome (number_of commit h) → IsSome (name_of (unwrap_or (number_of commit h) 0) h)
number-is-named h commit some = each (find (has_name commit) (declarations h)) refl some
  where
    named : (n : ℕ) → IsSome (find (has_number n) (declarations h)) → IsSome (name_of n h)
    named n found = go (find (has_number n) (declarations h)) found
      where
        go : (o : Option Declaration) → IsSome o → IsSome (option_map (λ (d : Declaration). d.name) o)
        go None none = none
        go (Some d) one = refl

    each : (o : Option Declaration) → find (has_name commit) (declarations h) ≡ o → IsSome (option_map (λ (d : Declaration). d.number) o)
        → IsSome (name_of (unwrap_or (option_map (λ (d : Declaration). d.number) (find (has_name commit) (declarations h))) 0) h)
    each None found none = absurd (let never : false ≡ true = none in cc)
    each (Some d) found one =
        let P : Option Declaration → Type 0 = λ o. IsSome (name_of (unwrap_or (option_map (λ (d : Declaration). d.number) o) 0) h) in
        subst P (sym found) (named d.number (found-again (has_name commit) (has_number d.number) (declarations h) d found (eq-eqb d.number d.number refl)))
