-- Fewer live runs have no more samples of a series, and no more positions.
use Rattle.std.proofs.{Common.{◌≡◌, ℕ, ◌≤◌, inl, inr, Bool, true, false, cond, List, [], ◌∷◌, ◌++◌, length, map, arith}, lemmas.Grind.common_steps}
use Rattle.std.{specs.Prelude.{Some, find, is_none, filter, flat_map}, proofs.lemmas.List.{length-map, map-append}, proofs.lemmas.Bool.cases_Bool}
use Rattle.segment_model.proofs.Rising.{IsIn, rising-fewer, in-append, append-in}
use Rattle.history_model.specs.{declared.entries.Acceptance.Acceptance, Allowed.greatest_of, Runs.{Retraction, Series, takes_back, live_of}}
use Rattle.history_model.specs.Positions.{Brought, brought_by, brought, positions_of}

pub greatest-fewer : {A : Type 0} (f g : A → ℕ) → ((x : A) → f x ≤ g x) → (xs : List A) → greatest_of (map f xs) ≤ greatest_of (map g xs)
greatest-fewer f g le [] = omega arith
greatest-fewer f g le (x ∷ xs) = grind (arith, common_steps, greatest-fewer f g le xs)

-- ---- what fewer runs brought
commit_of : Brought → ℕ
commit_of x = x.commit

module _ (f : Acceptance → List Brought) (p q : Acceptance → Bool) (fewer : (a : Acceptance) → q a ≡ false → p a ≡ false) where
  samples-fewer : (runs : List Acceptance) → length (flat_map f (filter p runs)) ≤ length (flat_map f (filter q runs))
  samples-fewer [] = omega arith
  samples-fewer (a ∷ runs) = grind (arith, common_steps, samples-fewer runs)

  commits-fewer : (c : ℕ) (runs : List Acceptance) → IsIn c (map commit_of (flat_map f (filter p runs))) → IsIn c (map commit_of (flat_map f (filter q runs)))
  commits-fewer c [] = λ is_in. is_in
  commits-fewer c (a ∷ runs) = elim (cases_Bool (q a)) [
    | inl kept ↦ elim (cases_Bool (p a)) [
      | inl too ↦ rw (kept, too, map-append, map-append) (λ is_in. append-in c (map commit_of (f a)) (map commit_of (flat_map f (filter q runs))) (elim (in-append c (map commit_of (f a)) (map commit_of (flat_map f (filter p runs))) is_in) [ inl here ↦ inl here | inr later ↦ inr (commits-fewer c runs later) ]))
      | inr gone ↦ rw (kept, gone, map-append) (λ is_in. append-in c (map commit_of (f a)) (map commit_of (flat_map f (filter q runs))) (inr (commits-fewer c runs is_in)))
    ]
    | inr gone ↦ rw (gone, fewer a gone) (commits-fewer c runs)
  ]

none-before : {A : Type 0} (p : A → Bool) (xs ys : List A) → is_none (find p xs) ≡ false → is_none (find p (xs ++ ys)) ≡ false
none-before p [] ys = λ found. absurd (cc)
none-before p (x ∷ xs) ys = elim (p x) as (λ b. is_none (cond b (Some x) (find p xs)) ≡ false → is_none (cond b (Some x) (find p (xs ++ ys))) ≡ false) [ true ↦ (λ found. found) | false ↦ none-before p xs ys ]

pub brought-fewer : (s : Series) (taken : List Retraction) (r : Retraction) (runs : List Acceptance) → length (brought s (live_of (taken ++ r ∷ []) runs)) ≤ length (brought s (live_of taken runs))
brought-fewer s taken r runs = grind (arith, common_steps, samples-fewer, is_none, find, none-before)

pub positions-fewer : (s : Series) (taken : List Retraction) (r : Retraction) (runs : List Acceptance)
    → length (positions_of (brought s (live_of (taken ++ r ∷ []) runs))) ≤ length (positions_of (brought s (live_of taken runs)))
unfolding commit_of
positions-fewer s taken r runs =
    let fewer : List Brought = brought s (live_of (taken ++ r ∷ []) runs) in
    let all : List Brought = brought s (live_of taken runs) in
    rw (length-map, length-map) (rising-fewer (map commit_of fewer) (map commit_of all) (λ c. commits-fewer (brought_by s) (λ a. is_none (find (takes_back a.run.run) (taken ++ r ∷ []))) (λ a. is_none (find (takes_back a.run.run) taken))
    (λ a gone. none-before (takes_back a.run.run) taken (r ∷ []) gone) c runs))
