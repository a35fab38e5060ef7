-- One row more.
use Rattle.std.proofs.Common.{◌≡◌, ℕ, suc, zero, ◌+◌, List, [], ◌∷◌, ◌++◌, take, refl, ap, subst, arith, Option, Some, None}
use Rattle.std.specs.Prelude.{slice_get, IfSome}
use Rattle.store_rows.specs.Loading.{LeadsTo, Takes, IsRefused, IsBad}

leads_more : {S : Type 0} (does : S → List ℕ → S → Type 0) (before v w : S) (rows : List (List ℕ)) (row : List ℕ)
    → LeadsTo does before rows v → does v row w → LeadsTo does before (rows ++ row ∷ []) w
leads_more {S = S} does before v w [] row led done = (w, subst (λ (x : S). does x row w) led done, refl)
leads_more does before v w (r ∷ rows) row led done = (led.0, led.1, leads_more does led.0 v w rows row led.2 done)

one_more : (rows : List (List ℕ)) (k : ℕ) (row : List ℕ) → slice_get rows k ≡ Some row → take (k + 1) rows ≡ take k rows ++ row ∷ []
one_more [] k row is = absurd (cc)
one_more (r ∷ rows) zero row is = let same : r ≡ row = cc in rw same refl
one_more (r ∷ rows) (suc k) row is = let step : suc k + 1 ≡ suc (k + 1) = omega arith in rw step (ap (λ (l : List (List ℕ)). r ∷ l) (one_more rows k row is))

pub leads_on : {S : Type 0} (does : S → List ℕ → S → Type 0) (kept : Option (List (List ℕ))) (before v w : S) (k : ℕ)
    → IfSome kept (λ rows. LeadsTo does before (take k rows) v) → IfSome kept (λ rows. Takes does v rows (k + 1) w)
    → IfSome kept (λ rows. LeadsTo does before (take (k + 1) rows) w)
leads_on does None before v w k led took = tt
leads_on {S = S} does (Some rows) before v w k led took =
    let is : slice_get rows k ≡ Some took.0 = subst (λ (j : ℕ). slice_get rows j ≡ Some took.0) (omega arith) took.1 in
    rw (one_more rows k took.0 is) (leads_more does before v w (take k rows) took.0 led took.2)

pub is_bad : {S : Type 0} (does : S → List ℕ → S → Type 0) (kept : Option (List (List ℕ))) (before v : S) (k : ℕ)
    → IfSome kept (λ rows. LeadsTo does before (take k rows) v) → IfSome kept (λ rows. IsRefused does v rows (k + 1))
    → IfSome kept (λ rows. IsBad does before rows (k + 1))
is_bad does None before v k led refused = tt
is_bad {S = S} does (Some rows) before v k led refused =
    (omega arith, (v, subst (λ (j : ℕ). LeadsTo does before (take j rows) v) (omega arith) led, refused))
