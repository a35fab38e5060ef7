-- What is chosen of a history of which the publications are left out, and which commits it declares: the same but for the steps.
use Rattle.std.proofs.Common.{◌≡◌, ℕ, ◌+◌, ◌≤◌, inl, inr, Bool, false, List, [], ◌∷◌, ◌++◌, length, map, Option, None, Some, refl, sym, ap, ap₂, ◌∙◌, arith, eqb}
use Rattle.std.{specs.Prelude.{find, filter, flat_map, option_map, sum_by, bytes_eq}, specs.List.cons_option, proofs.lemmas.Bool.cases_Bool}
use Rattle.std.proofs.lemmas.List.Sums.{sum_by-cons}
use Rattle.history_model.specs.declared.{entries.Declaration.Declaration, entries.Entry.Entry, publication.Publication.Publication}
use Rattle.history_model.specs.declared.entries.Entry.TheVariants as entry
use Rattle.history_model.specs.{Commits.{declaration, declarations, number_of, name_of}, Entries.{chosen_from, chosen}}
use Rattle.keep_rows.specs.Kept.{is_kept}

-- ---- lists that are the same but for what a function leaves out
pub map_cons : {A B : Type 0} (f : A → B) (o : Option A) (xs : List A) → map f (cons_option o xs) ≡ cons_option (option_map f o) (map f xs)
map_cons f None xs = refl
map_cons f (Some x) xs = refl

pub find_map : {A B : Type 0} (f : A → B) (q : B → Bool) (xs : List A) → option_map f (find (λ x. q (f x)) xs) ≡ find q (map f xs)
find_map f q [] = refl
find_map f q (x ∷ xs) = elim (cases_Bool (q (f x))) [ inl hit ↦ rw hit refl | inr past ↦ rw past (find_map f q xs) ]

pub filter_map : {A B : Type 0} (f : A → B) (q : B → Bool) (xs : List A) → map f (filter (λ x. q (f x)) xs) ≡ filter q (map f xs)
filter_map f q [] = refl
filter_map f q (x ∷ xs) = elim (cases_Bool (q (f x))) [ inl hit ↦ rw hit (ap (λ ys. f x ∷ ys) (filter_map f q xs)) | inr past ↦ rw past (filter_map f q xs) ]

pub filter_so : {A : Type 0} (p q : A → Bool) → ((x : A) → p x ≡ q x) → (xs : List A) → filter p xs ≡ filter q xs
filter_so p q same [] = refl
filter_so p q same (x ∷ xs) = rw (same x) (elim (cases_Bool (q x)) [ inl hit ↦ rw hit (ap (λ ys. x ∷ ys) (filter_so p q same xs)) | inr past ↦ rw past (filter_so p q same xs) ])

pub map_so : {A B : Type 0} (f g : A → B) → ((x : A) → f x ≡ g x) → (xs : List A) → map f xs ≡ map g xs
map_so f g same [] = refl
map_so f g same (x ∷ xs) = ap₂ (λ y ys. y ∷ ys) (same x) (map_so f g same xs)

pub map_map : {A B C : Type 0} (f : A → B) (g : B → C) (xs : List A) → map (λ x. g (f x)) xs ≡ map g (map f xs)
map_map f g [] = refl
map_map f g (x ∷ xs) = ap (λ ys. g (f x) ∷ ys) (map_map f g xs)

pub flat_map_map : {A B C : Type 0} (f : A → B) (g : B → List C) (xs : List A) → flat_map (λ x. g (f x)) xs ≡ flat_map g (map f xs)
flat_map_map f g [] = refl
flat_map_map f g (x ∷ xs) = ap (λ ys. g (f x) ++ ys) (flat_map_map f g xs)

pub sum_map : {A B : Type 0} (f : A → B) (g : B → ℕ) (xs : List A) → sum_by (λ x. g (f x)) xs ≡ sum_by g (map f xs)
sum_map f g [] = refl
sum_map f g (x ∷ xs) = sum_by-cons (λ y. g (f y)) x xs ∙ ap (λ n. g (f x) + n) (sum_map f g xs) ∙ sym (sum_by-cons g (f x) (map f xs))

pub shorter : (h : List Entry) → length (filter is_kept h) ≤ length h
shorter [] = omega arith
shorter (e ∷ h) = elim (cases_Bool (is_kept e)) [ inl hit ↦ rw hit (omega (arith, shorter h)) | inr past ↦ rw past (omega (arith, shorter h)) ]

-- what is never chosen of a publication isn't of what is left out
pub never : {A : Type 0} (choice : ℕ → Entry → Option A) → ((s : ℕ) (p : Publication) → choice s (entry.Publish p) ≡ None) → (s : ℕ) (e : Entry) → is_kept e ≡ false → choice s e ≡ None
never choice none s (entry.Publish p) past = none s p
never choice none s e past = absurd cc

-- what is chosen of a history, but for the steps, stays where what is left out is never chosen
module _ {A B : Type 0} (f : A → B) (choice : ℕ → Entry → Option A) (same : (s t : ℕ) (e : Entry) → option_map f (choice s e) ≡ option_map f (choice t e))
    (none : (s : ℕ) (e : Entry) → is_kept e ≡ false → choice s e ≡ None) where
  same_from : (s t : ℕ) (h : List Entry) → map f (chosen_from s choice (filter is_kept h)) ≡ map f (chosen_from t choice h)
  same_from s t [] = refl
  same_from s t (e ∷ h) = elim (cases_Bool (is_kept e)) [
    | inl hit ↦ rw hit (
        map_cons f (choice s e) (chosen_from (s + 1) choice (filter is_kept h))
        ∙ ap₂ cons_option (same s t e) (same_from (s + 1) (t + 1) h)
        ∙ sym (map_cons f (choice t e) (chosen_from (t + 1) choice h))
        )
    | inr past ↦ rw (past, none t e past) (same_from s (t + 1) h)
  ]

  pub same_chosen : (h : List Entry) → map f (chosen choice (filter is_kept h)) ≡ map f (chosen choice h)
  same_chosen h = same_from 1 1 h

-- what doesn't even tell the step is the same
module _ {A : Type 0} (choice : ℕ → Entry → Option A) (same : (s t : ℕ) (e : Entry) → choice s e ≡ choice t e)
    (none : (s : ℕ) (e : Entry) → is_kept e ≡ false → choice s e ≡ None) where
  plain_from : (s t : ℕ) (h : List Entry) → chosen_from s choice (filter is_kept h) ≡ chosen_from t choice h
  plain_from s t [] = refl
  plain_from s t (e ∷ h) = elim (cases_Bool (is_kept e)) [
    | inl hit ↦ rw hit (ap₂ cons_option (same s t e) (plain_from (s + 1) (t + 1) h))
    | inr past ↦ rw (past, none t e past) (plain_from s (t + 1) h)
  ]

  pub same_plain : (h : List Entry) → chosen choice (filter is_kept h) ≡ chosen choice h
  same_plain h = plain_from 1 1 h

-- ---- commits
pub record Pair : Type 0 where
  number : ℕ
  name : List ℕ

pub pair_of : Declaration → Pair
pair_of d = record { number = d.number; name = d.name }

declared_same : (s t : ℕ) (e : Entry) → option_map pair_of (declaration s e) ≡ option_map pair_of (declaration t e)
unfolding pair_of
declared_same s t (entry.Commit number name) = refl
declared_same s t e = refl

pub declared_none : (s : ℕ) (e : Entry) → is_kept e ≡ false → declaration s e ≡ None
declared_none = never declaration (λ s p. refl)

module _ (h : List Entry) where
  pub same_pairs : map pair_of (declarations (filter is_kept h)) ≡ map pair_of (declarations h)
  same_pairs = same_chosen pair_of declaration declared_same declared_none h

  option_join : {A B C : Type 0} (f : A → B) (g : B → C) (o : Option A) → option_map (λ x. g (f x)) o ≡ option_map g (option_map f o)
  option_join f g None = refl
  option_join f g (Some x) = refl

  found_by : {C : Type 0} (g : Pair → C) (q : Pair → Bool) (xs ys : List Declaration) → map pair_of xs ≡ map pair_of ys
      → option_map (λ d. g (pair_of d)) (find (λ d. q (pair_of d)) xs) ≡ option_map (λ d. g (pair_of d)) (find (λ d. q (pair_of d)) ys)
  found_by g q xs ys same =
      option_join pair_of g (find (λ d. q (pair_of d)) xs) ∙ ap (option_map g) (find_map pair_of q xs ∙ ap (find q) same ∙ sym (find_map pair_of q ys))
      ∙ sym (option_join pair_of g (find (λ d. q (pair_of d)) ys))

  pub same_number : (name : List ℕ) → number_of name (filter is_kept h) ≡ number_of name h
  unfolding pair_of
  same_number name = found_by (λ p. p.number) (λ p. bytes_eq p.name name) (declarations (filter is_kept h)) (declarations h) same_pairs

  pub same_name : (number : ℕ) → name_of number (filter is_kept h) ≡ name_of number h
  unfolding pair_of
  same_name number = found_by (λ p. p.name) (λ p. eqb p.number number) (declarations (filter is_kept h)) (declarations h) same_pairs
