-- Paths, one stretch after the other.
use Rattle.std.proofs.{Common.{◌≡◌, ◌≢◌, ℕ, ℤ, zero, suc, ◌+◌, ◌-◌, ◌<◌, List, [], ◌∷◌, length, get_or, pos, ◌+ℤ◌, ◌≤ℤ◌, arith}, lemmas.Int.ints}
use Rattle.segment_model.specs.Segments.{Position}
use Rattle.penalty_path.specs.{declared.stretch.Stretch.Stretch, Paths.{IsStretch, Follows, IsPath}}

-- the path from the first stretch on
abbrev pub Runs : List Position → ℤ → ℤ → List Stretch → Type 0
Runs points low high [] = ⊥
Runs points low high (s ∷ []) = IsStretch points s × (s.from ≡ low) × (s.to ≡ high)
Runs points low high (s ∷ t ∷ rest) = IsStretch points s × (s.from ≡ low) × (t.first.cuts ≢ s.last.cuts) × Runs points (s.to +ℤ pos 1) high (t ∷ rest)

module _ (points : List Position) (high : ℤ) where
  rest-path : (low : ℤ) (s t : Stretch) (rest : List Stretch) → IsPath points low high (s ∷ t ∷ rest) → IsPath points (s.to +ℤ pos 1) high (t ∷ rest)
  rest-path low s t rest h = record {
    some = omega arith;
    begins = λ d. (h.follow 0 d (omega arith)).begins;
    ends = λ d. let e : length (s ∷ t ∷ rest) - 1 ≡ suc (length (t ∷ rest) - 1) = omega arith in rw e at (h.ends d);
    each = λ i d lt. h.each (suc i) d (omega (arith, lt));
    follow = λ i d lt. let e : suc i + 1 ≡ suc (i + 1) = omega arith in rw e at (h.follow (suc i) d (omega (arith, lt)));
  }

  pub runs-of : (low : ℤ) (stretches : List Stretch) → IsPath points low high stretches → Runs points low high stretches
  runs-of low [] h = absurd (omega (arith, h.some))
  runs-of low (s ∷ []) h = (h.each 0 s (omega arith), h.begins s, h.ends s)
  runs-of low (s ∷ t ∷ rest) h =
      (h.each 0 s (omega arith), h.begins s, (h.follow 0 s (omega arith)).differs, runs-of (s.to +ℤ pos 1) (t ∷ rest) (rest-path low s t rest h))

  pub runs-from : (low : ℤ) (t : Stretch) (rest : List Stretch) → Runs points low high (t ∷ rest) → t.from ≡ low
  runs-from low t [] h = h.1
  runs-from low t (u ∷ rest) h = h.1

  whole-path : (low : ℤ) (s t : Stretch) (rest : List Stretch) → IsStretch points s → s.from ≡ low → t.first.cuts ≢ s.last.cuts → t.from ≡ s.to +ℤ pos 1
      → IsPath points (s.to +ℤ pos 1) high (t ∷ rest) → IsPath points low high (s ∷ t ∷ rest)
  whole-path low s t rest is from differs next h = record {
    some = omega arith;
    begins = λ d. from;
    ends = λ d. let e : length (s ∷ t ∷ rest) - 1 ≡ suc (length (t ∷ rest) - 1) = omega arith in rw e (h.ends d);
    each = each;
    follow = follow;
  }
    where
      each : (i : ℕ) (d : Stretch) → i < length (s ∷ t ∷ rest) → IsStretch points (get_or (s ∷ t ∷ rest) i d)
      each zero d lt = is
      each (suc i) d lt = h.each i d (omega (arith, lt))

      follow : (i : ℕ) (d : Stretch) → i + 1 < length (s ∷ t ∷ rest) → Follows (get_or (s ∷ t ∷ rest) i d) (get_or (s ∷ t ∷ rest) (i + 1) d)
      follow zero d lt = record { begins = next; differs = differs }
      follow (suc i) d lt = let e : suc i + 1 ≡ suc (i + 1) = omega arith in rw e (h.follow i d (omega (arith, lt)))

  pub path-of : (low : ℤ) (stretches : List Stretch) → Runs points low high stretches → IsPath points low high stretches
  path-of low [] h = absurd h
  path-of low (s ∷ []) h = record { some = omega arith; begins = λ d. h.1; ends = λ d. h.2; each = each; follow = λ i d lt. absurd (omega (arith, lt)) }
    where
      each : (i : ℕ) (d : Stretch) → i < 1 → IsStretch points (get_or (s ∷ []) i d)
      each zero d lt = h.0
      each (suc i) d lt = absurd (omega (arith, lt))
  path-of low (s ∷ t ∷ rest) h =
      whole-path low s t rest h.0 h.1 h.2 (runs-from (s.to +ℤ pos 1) t rest h.3) (path-of (s.to +ℤ pos 1) (t ∷ rest) h.3)

  -- the first stretch ends in the range, and not before it begins
  pub first-within : (low : ℤ) (s : Stretch) (rest : List Stretch) → Runs points low high (s ∷ rest) → (low ≤ℤ s.to) × (s.to ≤ℤ high)
  first-within low s [] h = (omega (arith, ints, h.0.rises, h.1), omega (arith, ints, h.2))
  first-within low s (t ∷ rest) h =
      let after = first-within (s.to +ℤ pos 1) t rest h.3 in
      (omega (arith, ints, h.0.rises, h.1), omega (arith, ints, after.0, after.1))
