-- Items that are read one by one from their words.
use Rattle.std.proofs.Common.{◌≡◌, ℕ, ◌<◌, List, [], ◌∷◌, ◌++◌, length, get_or, All, Option, Some, None, true, false, IfSome, IfNone, is_some, refl, subst, sym, ap, ◌∙◌, arith, append_assoc, append-nil, length-append}
use Rattle.std.proofs.lemmas.{Bool.false≢true, Grind.common_steps}

-- the words spell some items behind those that were read
abbrev pub Rest : {A : Type 0} → (List A → List (List ℕ)) → (all front : List A) (words : List (List ℕ)) → Type 0
Rest {A} spelt all front words = (rest : List A) × (all ≡ front ++ rest) × (words ≡ spelt rest)

-- an item comes next
pub record NextOf {A : Type 0} (Is : A → Type 0) (spelt : List A → List (List ℕ)) (all front : List A) (words : List (List ℕ)) : Type 0 where
  pub m : A
  pub rest : List A
  pub item : Is m
  pub is : all ≡ (front ++ m ∷ []) ++ rest
  pub are : words ≡ spelt (m ∷ rest)

at_end : {A : Type 0} (front : List A) (m : A) (rest : List A) → get_or (front ++ m ∷ rest) (length front) m ≡ m
at_end [] m rest = refl
at_end (x ∷ front) m rest = at_end front m rest

pub some_next : {A B : Type 0} (Is : A → Type 0) (spelt : List A → List (List ℕ)) (r : Option B) (first : B → List ℕ) (more : B → List (List ℕ)) (all front : List A) (words : List (List ℕ))
    → spelt [] ≡ [] → All Is all → true ≡ is_some r → IfSome r (λ x. words ≡ first x ∷ more x) → Rest spelt all front words
    → NextOf Is spelt all front words
some_next Is spelt None first more all front words empty each some next rest = absurd (false≢true (sym some))
some_next Is spelt (Some x) first more all front words empty each some next ([], is, are) = grind (arith, common_steps)
some_next Is spelt (Some x) first more all front words empty each some next (m ∷ rest, is, are) =
    let place : length front < length all = omega (arith, ap length is, length-append front (m ∷ rest)) in
    record {
      m = m;
      rest = rest;
      item = subst Is (ap (λ xs. get_or xs (length front) m) is ∙ at_end front m rest) (each (length front) m place);
      is = is ∙ sym (append_assoc front (m ∷ []) rest);
      are = are;
    }

pub none_next : {A B : Type 0} (spelt : List A → List (List ℕ)) (r : Option B) (all front : List A) (words : List (List ℕ))
    → ((m : A) (rest : List A) → 0 < length (spelt (m ∷ rest))) → false ≡ is_some r → IfNone r (words ≡ []) → Rest spelt all front words → front ≡ all
none_next spelt (Some x) all front words full none next rest = absurd (false≢true none)
none_next spelt None all front words full none next ([], is, are) = sym (is ∙ append-nil front)
none_next spelt None all front words full none next (m ∷ rest, is, are) = absurd (omega (arith, full m rest, ap length (sym are ∙ next)))
