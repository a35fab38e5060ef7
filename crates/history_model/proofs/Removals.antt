-- The samples of a step are taken away from the positions as they stand.
use Rattle.std.proofs.Common.{◌≡◌, ◌≢◌, ℕ, suc, inl, inr, Bool, true, false, not, ◌&&◌, List, [], ◌∷◌, map, refl, sym, ap, ◌∙◌, arith, ◌==◌}
use Rattle.std.{specs.Prelude.filter, proofs.lemmas.Bool.{cases_Bool, cases_eq, eq-eqb, ne_eqb}, proofs.lemmas.Grind.common_steps}
use Rattle.segment_model.specs.{Segments.Observation, Edits.{has_values, without_step, removed}}
use Rattle.history_model.specs.Positions.{Brought, rising, position_at, positions_of}
use Rattle.segment_model.proofs.Rising.{IsIn, RisesFrom, rises-lower, rising-rises, rising-has, rising-only, same-rising}

commit_of : Brought → ℕ
commit_of x = x.commit

sample_of : Brought → Observation
sample_of x = record { step = x.step; value = x.value }

filter-map : {A B : Type 0} (q : B → Bool) (f : A → B) (xs : List A) → filter q (map f xs) ≡ map f (filter (λ x. q (f x)) xs)
filter-map q f [] = refl
filter-map q f (x ∷ xs) = grind (arith, common_steps, filter-map q f xs)

filter-rises : (q : ℕ → Bool) (low : ℕ) (ds : List ℕ) → RisesFrom low ds → RisesFrom low (filter q ds)
filter-rises q low [] rises = tt
filter-rises q low (d ∷ ds) rises = grind (arith, common_steps, cases_Bool, rises-lower, filter, filter-rises q (suc d) ds rises.1)

filter-in : (q : ℕ → Bool) (c : ℕ) (ds : List ℕ) → IsIn c ds → q c ≡ true → IsIn c (filter q ds)
filter-in q c [] is_in hit = is_in
filter-in q c (d ∷ ds) is_in hit = elim (cases_Bool (q d)) [
  | inl kept ↦ rw kept (elim is_in [ inl at ↦ inl at | inr later ↦ inr (filter-in q c ds later hit) ])
  | inr gone ↦ rw gone (elim is_in [ inl at ↦ absurd (let no : true ≡ false = sym hit ∙ ap q at ∙ gone in cc) | inr later ↦ filter-in q c ds later hit ])
]

in-filter : (q : ℕ → Bool) (c : ℕ) (ds : List ℕ) → IsIn c (filter q ds) → IsIn c ds × (q c ≡ true)
in-filter q c [] = λ is_in. absurd is_in
in-filter q c (d ∷ ds) = grind (arith, common_steps, in-filter q c ds)

-- a commit has samples where something was brought at it
brought-there : (items : List Brought) (c : ℕ) → IsIn c (map commit_of items) → has_values (position_at items c) ≡ true
unfolding commit_of
brought-there [] c is_in = absurd is_in
brought-there (x ∷ items) c is_in = elim (cases_eq x.commit c) [
  | inl same ↦ rw (eq-eqb x.commit c same) refl
  | inr other ↦ rw (ne_eqb x.commit c other) (elim is_in [ inl at ↦ absurd (other (sym at)) | inr later ↦ brought-there items c later ])
]

there-brought : (items : List Brought) (c : ℕ) → has_values (position_at items c) ≡ true → IsIn c (map commit_of items)
unfolding commit_of
there-brought [] c = λ some. absurd (cc)
there-brought (x ∷ items) c = grind (arith, common_steps, there-brought items c)

-- of any rising list that has all commits, those with samples are the positions
positions-among : (items : List Brought) (ds : List ℕ) → RisesFrom 0 ds → ((c : ℕ) → IsIn c (map commit_of items) → IsIn c ds)
    → filter has_values (map (position_at items) ds) ≡ positions_of items
unfolding commit_of
positions-among items ds rises all =
    filter-map has_values (position_at items) ds
    ∙ ap (map (position_at items)) (same-rising 0 (filter (λ d. has_values (position_at items d)) ds) (rising (map commit_of items))
    (filter-rises (λ d. has_values (position_at items d)) 0 ds rises) (rising-rises (map commit_of items))
    (λ c is_in. rising-has c (map commit_of items) (there-brought items c (in-filter (λ d. has_values (position_at items d)) c ds is_in).1))
    (λ c is_in. filter-in (λ d. has_values (position_at items d)) c ds (all c (rising-only c (map commit_of items) is_in)) (brought-there items c (rising-only c (map commit_of items) is_in))))

module _ (commit step : ℕ) where
  stays : Brought → Bool
  stays x = not (x.commit == commit && x.step == step)

  fewer-commits : (items : List Brought) (c : ℕ) → IsIn c (map commit_of (filter stays items)) → IsIn c (map commit_of items)
  fewer-commits [] c = λ is_in. is_in
  fewer-commits (x ∷ items) c = grind (arith, common_steps, fewer-commits items c)

  samples-there : (items : List Brought) (d : ℕ) → d ≡ commit
      → map sample_of (filter (λ (x : Brought). x.commit == d) (filter stays items)) ≡ filter (λ (y : Observation). not (y.step == step)) (map sample_of (filter (λ (x : Brought). x.commit == d) items))
  unfolding stays sample_of
  samples-there [] d at = refl
  samples-there (x ∷ items) d at = grind (arith, common_steps, samples-there items d at)

  samples-else : (items : List Brought) (d : ℕ) → d ≢ commit → filter (λ (x : Brought). x.commit == d) (filter stays items) ≡ filter (λ (x : Brought). x.commit == d) items
  unfolding stays
  samples-else [] d other = refl
  samples-else (x ∷ items) d other = grind (arith, common_steps, samples-else items d other)

  position-without : (items : List Brought) (d : ℕ) → without_step commit step (position_at items d) ≡ position_at (filter stays items) d
  unfolding sample_of
  position-without items d = elim (cases_eq d commit) [
    | inl at ↦ rw (eq-eqb d commit at) (ap (λ (ys : List Observation). record { commit = d; samples = ys }) (sym (samples-there items d at)))
    | inr other ↦ rw (ne_eqb d commit other) (ap (λ (ys : List Brought). record { commit = d; samples = map (λ (y : Brought). record { step = y.step; value = y.value }) ys }) (sym (samples-else items d other)))
  ]

  all-without : (items : List Brought) (ds : List ℕ) → map (without_step commit step) (map (position_at items) ds) ≡ map (position_at (filter stays items)) ds
  all-without items [] = refl
  all-without items (d ∷ ds) = grind (arith, common_steps, map, commit, step, position-without, filter, stays, all-without items ds)

  -- the positions without the samples of a step at a commit
  pub positions-without : (items : List Brought) → positions_of (filter (λ (x : Brought). not (x.commit == commit && x.step == step)) items) ≡ removed commit step (positions_of items)
  unfolding commit_of stays
  positions-without items =
      sym (positions-among (filter stays items) (rising (map commit_of items)) (rising-rises (map commit_of items)) (λ c is_in. rising-has c (map commit_of items) (fewer-commits items c is_in)))
      ∙ ap (filter has_values) (sym (all-without items (rising (map commit_of items))))
