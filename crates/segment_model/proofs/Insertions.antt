-- A sample more at the end is put into the positions as they stand.
use Rattle.std.{proofs.Common.{◌≡◌, ◌≢◌, ℕ, suc, ◌<◌, ◌≤◌, inl, inr, List, [], ◌∷◌, ◌++◌, map, refl, sym, ap, ◌∙◌, arith, ◌==◌}, specs.Prelude.filter}
use Rattle.std.proofs.lemmas.{List.map-append, Bool.{cases_order, lt-ltb, le-ltb, eq-eqb, ne_eqb}, Grind.common_steps}
use Rattle.segment_model.specs.{Brought.{Brought, in_place, rising, position_at, positions_of}, Edits.inserted, Brought.observed}
use Rattle.segment_model.proofs.Rising.{IsIn, RisesFrom, in-bound, rising-push, rising-rises, rising-has}

commit_of : Brought → ℕ
commit_of x = x.commit

-- what was brought elsewhere leaves a position
other-position : (items : List Brought) (x : Brought) (d : ℕ) → x.commit ≢ d → position_at (items ++ x ∷ []) d ≡ position_at items d
other-position items x d other = grind (arith, common_steps)

-- what was brought there is its last sample
same-position : (items : List Brought) (x : Brought) (d : ℕ) → x.commit ≡ d
    → position_at (items ++ x ∷ []) d ≡ record { commit = d; samples = (position_at items d).samples ++ record { step = x.step; value = x.value } ∷ [] }
same-position items x d same = grind (arith, common_steps)

none-there : (items : List Brought) (c : ℕ) → (IsIn c (map commit_of items) → ⊥) → filter (λ (y : Brought). y.commit == c) items ≡ []
unfolding commit_of
none-there [] c none = refl
none-there (x ∷ items) c none = rw (ne_eqb x.commit c (λ e. none (inl (sym e)))) (none-there items c (λ is_in. none (inr is_in)))

kept-positions : (items : List Brought) (x : Brought) (low : ℕ) (ds : List ℕ) → x.commit < low → RisesFrom low ds → map (position_at (items ++ x ∷ [])) ds ≡ map (position_at items) ds
kept-positions items x low [] lt rises = refl
kept-positions items x low (d ∷ ds) lt rises = grind (arith, common_steps, kept-positions items x (suc d) ds (omega (arith, rises.0)) rises.1)

new-position : (items : List Brought) (x : Brought) → (IsIn x.commit (map commit_of items) → ⊥)
    → position_at (items ++ x ∷ []) x.commit ≡ record { commit = x.commit; samples = record { step = x.step; value = x.value } ∷ [] }
new-position items x none =
    let alone = none-there items x.commit none in
    same-position items x x.commit refl
    ∙ ap (λ (ys : List Brought). record { commit = x.commit; samples = map (λ (y : Brought). record { step = y.step; value = y.value }) ys ++ record { step = x.step; value = x.value } ∷ [] }) alone

placed : (items : List Brought) (x : Brought) (low : ℕ) (ds : List ℕ) → RisesFrom low ds → (low ≤ x.commit → IsIn x.commit (map commit_of items) → IsIn x.commit ds) → low ≤ x.commit
    → map (position_at (items ++ x ∷ [])) (in_place x.commit ds) ≡ inserted x.commit (observed x) (map (position_at items) ds)
placed items x low [] rises has le = ap (λ p. p ∷ []) (new-position items x (λ is_in. has le is_in))
placed items x low (d ∷ ds) rises has le = elim (cases_order x.commit d) [
  | inl same ↦ rw (le-ltb x.commit d (omega (arith, same)), eq-eqb d x.commit (sym same))
      (ap (λ p. p ∷ map (position_at (items ++ x ∷ [])) ds) (same-position items x d same)
      ∙ ap (λ ps. record { commit = d; samples = (position_at items d).samples ++ record { step = x.step; value = x.value } ∷ [] } ∷ ps) (kept-positions items x (suc d) ds (omega (arith, same)) rises.1))
  | inr other ↦ elim other [
    | inl below ↦ rw (lt-ltb x.commit d below)
        (ap (λ p. p ∷ map (position_at (items ++ x ∷ [])) (d ∷ ds)) (new-position items x (λ is_in. absurd-in below (has le is_in)))
        ∙ ap (λ ps. record { commit = x.commit; samples = record { step = x.step; value = x.value } ∷ [] } ∷ ps) (kept-positions items x d (d ∷ ds) below (omega arith, rises.1)))
    | inr above ↦ rw (le-ltb x.commit d (omega (arith, above)), ne_eqb d x.commit (λ e. omega (arith, e, above)))
        (ap (λ p. p ∷ map (position_at (items ++ x ∷ [])) (in_place x.commit ds)) (other-position items x d (λ e. omega (arith, e, above)))
        ∙ ap (λ ps. position_at items d ∷ ps) (placed items x (suc d) ds rises.1
        (λ le2 is_in. elim (has le is_in) [ inl e ↦ absurd (omega (arith, e, above)) | inr later ↦ later ]) (omega (arith, above))))
  ]
]
  where
    absurd-in : x.commit < d → IsIn x.commit (d ∷ ds) → ⊥
    absurd-in below is_in = elim is_in [ inl e ↦ omega (arith, e, below) | inr later ↦ omega (arith, below, in-bound (suc d) x.commit ds rises.1 later) ]

-- the positions with a sample more
pub positions-push : (items : List Brought) (x : Brought) → positions_of (items ++ x ∷ []) ≡ inserted x.commit (observed x) (positions_of items)
unfolding commit_of
positions-push items x =
    let commits : List ℕ = map commit_of items in
    let all_is : rising (map commit_of (items ++ x ∷ [])) ≡ in_place x.commit (rising commits) =
    ap rising (map-append commit_of items (x ∷ [])) ∙ rising-push commits x.commit in
    ap (map (position_at (items ++ x ∷ []))) all_is
    ∙ placed items x 0 (rising commits) (rising-rises commits) (λ le is_in. rising-has x.commit commits is_in) (omega arith)
