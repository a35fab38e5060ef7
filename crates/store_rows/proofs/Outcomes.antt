-- Rows that lead to one value at most have one outcome.
use Rattle.std.{proofs.Common.{◌≡◌, ℕ, suc, zero, ◌-◌, List, [], ◌∷◌, take, refl, sym, ap, ◌∙◌, subst, arith, Some}, specs.Prelude.slice_get}
use Rattle.store_rows.specs.{Loading.LeadsTo, Laws.{IsDetermined, HasOneOutcome}}

one_value : {S : Type 0} (does : S → List ℕ → S → Type 0) → IsDetermined does → (before : S) (rows : List (List ℕ)) (one other : S)
    → LeadsTo does before rows one → LeadsTo does before rows other → one ≡ other
one_value does law before [] one other a b = a ∙ sym b
one_value {S = S} does law before (row ∷ rows) one other a b =
    let same : b.0 ≡ a.0 = law before row b.0 a.0 b.1 a.1 in
    one_value does law a.0 rows one other a.2 (subst (λ (v : S). LeadsTo does v rows other) same b.2)

-- the row at k, where all rows lead on, does something with what the rows before it led to
goes_on : {S : Type 0} (does : S → List ℕ → S → Type 0) → IsDetermined does → (before after reached : S) (rows : List (List ℕ)) (k : ℕ) (row : List ℕ)
    → LeadsTo does before rows after → slice_get rows k ≡ Some row → LeadsTo does before (take k rows) reached → ((v : S) → ¬ does reached row v) → ⊥
goes_on does law before after reached [] k row led is part refused = absurd (cc)
goes_on {S = S} does law before after reached (r ∷ rows) zero row led is part refused =
    let same : r ≡ row = cc in
    refused led.0 (subst (λ (v : S). does v row led.0) (sym part) (subst (λ (x : List ℕ). does before x led.0) same led.1))
goes_on {S = S} does law before after reached (r ∷ rows) (suc k) row led is part refused =
    let same : part.0 ≡ led.0 = law before r part.0 led.0 part.1 led.1 in
    goes_on does law led.0 after reached rows k row led.2 is (subst (λ (v : S). LeadsTo does v (take k rows) reached) same part.2) refused

one_place : {S : Type 0} (does : S → List ℕ → S → Type 0) → IsDetermined does → (before v w : S) (rows : List (List ℕ)) (k j : ℕ) (row other : List ℕ)
    → slice_get rows k ≡ Some row → LeadsTo does before (take k rows) v → ((after : S) → ¬ does v row after)
    → slice_get rows j ≡ Some other → LeadsTo does before (take j rows) w → ((after : S) → ¬ does w other after) → k ≡ j
one_place does law before v w [] k j row other a led stop b to halt = absurd (cc)
one_place does law before v w (r ∷ rows) zero zero row other a led stop b to halt = refl
one_place {S = S} does law before v w (r ∷ rows) zero (suc j) row other a led stop b to halt =
    let same : r ≡ row = cc in
    absurd (stop to.0 (subst (λ (x : S). does x row to.0) (sym led) (subst (λ (x : List ℕ). does before x to.0) same to.1)))
one_place {S = S} does law before v w (r ∷ rows) (suc k) zero row other a led stop b to halt =
    let same : r ≡ other = cc in
    absurd (halt led.0 (subst (λ (x : S). does x other led.0) (sym to) (subst (λ (x : List ℕ). does before x led.0) same led.1)))
one_place {S = S} does law before v w (r ∷ rows) (suc k) (suc j) row other a led stop b to halt =
    let same : to.0 ≡ led.0 = law before r to.0 led.0 to.1 led.1 in
    let rest : k ≡ j = one_place does law led.0 v w rows k j row other a led.2 stop b
    (subst (λ (x : S). LeadsTo does x (take j rows) w) same to.2) halt in
    ap suc rest

pub one_outcome : {S : Type 0} (does : S → List ℕ → S → Type 0) → IsDetermined does → HasOneOutcome does
one_outcome does law = record {
  value = one_value does law;
  bad = λ before rows k j a b.
      let places : k - 1 ≡ j - 1 = one_place does law before a.1.0 b.1.0 rows (k - 1) (j - 1) a.1.2.0 b.1.2.0 a.1.2.1 a.1.1 a.1.2.2 b.1.2.1 b.1.1 b.1.2.2 in
      omega (arith, places, a.0, b.0);
  either = λ before after rows k led a.
      goes_on does law before after a.1.0 rows (k - 1) a.1.2.0 led a.1.2.1 a.1.1 a.1.2.2;
}
