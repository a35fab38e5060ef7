-- Points have one list of distances.
use Rattle.std.proofs.Common.{◌≡◌, ℕ, suc, ℤ, ◌+◌, ◌<◌, List, [], ◌∷◌, ◌++◌, length, refl, sym, ap, ◌∙◌, inl, inr, arith, ◌-ℤ◌, unsigned_abs}
use Rattle.std.{specs.Prelude.slice_index, proofs.lemmas.Bool.cases_lt, proofs.lemmas.List.{length-append, get_or_append_left, get_or_push}}
use Rattle.segment_model.specs.{Segments.{Position, segment}, Laws.CentreIsUnique}
use Rattle.series_noise.{specs.Noise.{IsDistance, IsNoise}, proofs.Ordered.one-median}

-- ---- one distance more
pub one-more : (P : ℕ → ℕ → Type 0) (xs : List ℕ) (x i : ℕ) → length xs ≡ i → ((k : ℕ) → k < i → P k (slice_index xs k)) → P i x
    → (length (xs ++ x ∷ []) ≡ i + 1) × ((k : ℕ) → k < i + 1 → P k (slice_index (xs ++ x ∷ []) k))
one-more P xs x i size before here =
    let sum : length (xs ++ x ∷ []) ≡ length xs + 1 = length-append xs (x ∷ []) in (
      omega (arith, size, sum),
      λ k p. elim (cases_lt k i) [
        | inl lt ↦ rw (get_or_append_left xs (x ∷ []) 0 k (omega (arith, lt, size))) (before k lt)
        | inr ge ↦
            let e : k ≡ i = omega (arith, p, ge) in
            rw (e, get_or_push xs x 0 i size) here
      ],
    )

-- ---- one list of them
one-distance : CentreIsUnique → (points : List Position) (i one other : ℕ) → IsDistance points i one → IsDistance points i other → one ≡ other
one-distance unique points i one other d e =
    let before = unique (segment points i (i + 1)) d.before e.before d.centre_before e.centre_before in
    let after = unique (segment points (i + 1) (i + 2)) d.after e.after d.centre_after e.centre_after in
    d.apart ∙ ap (λ (z : ℤ). unsigned_abs (z -ℤ d.before)) after ∙ ap (λ (z : ℤ). unsigned_abs (e.after -ℤ z)) before ∙ sym e.apart

same-items : (xs ys : List ℕ) → length xs ≡ length ys → ((i : ℕ) → i < length xs → slice_index xs i ≡ slice_index ys i) → xs ≡ ys
same-items [] [] size each = refl
same-items [] (y ∷ ys) size each = absurd (let no : 0 ≡ length (y ∷ ys) = size in omega (arith, no))
same-items (x ∷ xs) [] size each = absurd (let no : length (x ∷ xs) ≡ 0 = size in omega (arith, no))
same-items (x ∷ xs) (y ∷ ys) size each =
    let head : x ≡ y = each 0 (omega arith) in
    let rest : xs ≡ ys = same-items xs ys (omega (arith, size)) (λ i lt. each (suc i) (omega (arith, lt))) in
    ap (λ z. z ∷ xs) head ∙ ap (λ zs. y ∷ zs) rest

pub one-noise : CentreIsUnique → (points : List Position) (one other : ℕ) → IsNoise points one → IsNoise points other → one ≡ other
one-noise unique points one other m n =
    let same : n.distances ≡ m.distances = same-items n.distances m.distances (omega (arith, m.apart.counted, n.apart.counted))
    (λ i lt. one-distance unique points i (slice_index n.distances i) (slice_index m.distances i) (n.apart.each i lt)
    (m.apart.each i (omega (arith, lt, m.apart.counted, n.apart.counted)))) in
    one-median m.distances one other m.median (rw same at n.median)
