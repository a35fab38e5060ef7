-- What holds of each change, with one more.
use Rattle.std.proofs.{Common.{◌≡◌, ℕ, Bool, ◌+◌, ◌<◌, List, [], ◌∷◌, ◌++◌, length, get_or, inl, inr, arith}, lemmas.Bool.cases_lt}
use Rattle.std.proofs.lemmas.List.{length-append, get_or_append_left, get_or_push}
use Rattle.segment_model.specs.Segments.{Position}
use Rattle.change_list.specs.{declared.change.Change.Change, Changes.IsChange}

pub one-more : (P : ℕ → Change → Type 0) (xs : List Change) (x : Change) (i : ℕ) → length xs ≡ i
    → ((k : ℕ) → k < i → (d : Change) → P k (get_or xs k d)) → P i x
    → (length (xs ++ x ∷ []) ≡ i + 1) × ((k : ℕ) → k < i + 1 → (d : Change) → P k (get_or (xs ++ x ∷ []) k d))
one-more P xs x i size before here =
    let sum : length (xs ++ x ∷ []) ≡ length xs + 1 = length-append xs (x ∷ []) in (
      omega (arith, size, sum),
      λ k p d. elim (cases_lt k i) [
        | inl lt ↦ rw (get_or_append_left xs (x ∷ []) d k (omega (arith, lt, size))) (before k lt d)
        | inr ge ↦
            let e : k ≡ i = omega (arith, p, ge) in
            rw (e, get_or_push xs x d i size) here
      ],
    )

pub moved : (points : List Position) (one other : Bool) (low low' cut high high' : ℕ) (x : Change) → IsChange points one low cut high x
    → one ≡ other → low ≡ low' → high ≡ high' → IsChange points other low' cut high' x
moved points one other low low' cut high high' x h e f g = rw (← e, ← f, ← g) h
