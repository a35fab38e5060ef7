-- Points have one path, and a short one.
use Rattle.std.proofs.Common.{◌≡◌, ◌≢◌, ℕ, ℤ, zero, suc, ◌+◌, ◌<◌, ◌≤◌, max, List, [], ◌∷◌, length, inl, inr, sym, ap, ◌∙◌, pos, ◌+ℤ◌, ◌≤ℤ◌, ◌<ℤ◌, arith}
use Rattle.std.proofs.lemmas.{Int.{ints, by_lt_z}, Bool.cases_eq}
use Rattle.segment_model.{specs.Segments.Position, specs.Cuts.{RisesBetween, IsCutList}, proofs.CutLists.places-rise}
use Rattle.segment_cost.specs.declared.cert.Cert.{Cert}
use Rattle.penalty_path.{specs.declared.stretch.Stretch.Stretch, specs.Paths.{AreBest, IsStretch, IsPath}, specs.Known.Known, proofs.Known.best-stands}
use Rattle.penalty_path.proofs.Runs.{Runs, runs-of, runs-from, first-within}

rises-few : (low high : ℕ) (cuts : List ℕ) → low < high → RisesBetween low high cuts → low + length cuts < high
rises-few low high [] lt h = omega (arith, lt)
rises-few low high (c ∷ cs) lt h = omega (arith, h.0, rises-few c high cs h.1 h.2)

-- a cut list has fewer cuts than there are positions, where there are some
pub few-cuts : (len n : ℕ) (cuts : List ℕ) → IsCutList len n cuts → length cuts + 1 ≤ max 1 n
few-cuts len n cuts h = few-places n cuts (places-rise len n cuts h)
  where
    few-places : (n : ℕ) (cuts : List ℕ) → RisesBetween 0 n cuts → length cuts + 1 ≤ max 1 n
    few-places zero [] h = omega arith
    few-places zero (c ∷ cs) h = absurd (omega (arith, h.1))
    few-places (suc n) cuts h = omega (arith, rises-few 0 (suc n) cuts (omega arith) h)

stretch_of : ℤ → ℤ → Cert → Cert → Stretch
stretch_of from to first last = record { from = from; to = to; first = first; last = last }

same_parts : (from from' to to' : ℤ) (first first' last last' : Cert) → from ≡ from' → to ≡ to' → first ≡ first' → last ≡ last'
    → stretch_of from to first last ≡ stretch_of from' to' first' last'
same_parts from from' to to' first first' last last' a b c d = cc

module _ (points : List Position) (known : Known points) where
  runs-first : (high low : ℤ) (t : Stretch) (rest : List Stretch) → Runs points low high (t ∷ rest) → IsStretch points t
  runs-first high low t [] h = h.0
  runs-first high low t (u ∷ rest) h = h.0

  runs-rises : (high low : ℤ) (t : Stretch) (rest : List Stretch) → Runs points low high (t ∷ rest) → t.from ≤ℤ t.to
  runs-rises high low t rest h = (runs-first high low t rest h).rises

  -- the cuts of a stretch's two certificates are equal
  pub same-cuts : (s : Stretch) → IsStretch points s → s.first.cuts ≡ s.last.cuts
  same-cuts s h =
      let both = h.best s.from (omega (arith, ints)) h.rises in
      known.unique s.from s.first.cuts s.last.cuts both.0 both.1

  -- a stretch that begins like another doesn't end before it where another follows
  not-before : (high : ℤ) (s other t : Stretch) (rest : List Stretch) → IsStretch points s → IsStretch points other → s.from ≡ other.from → t.first.cuts ≢ s.last.cuts
      → Runs points (s.to +ℤ pos 1) high (t ∷ rest) → s.to <ℤ other.to → ⊥
  not-before high s other t rest h k from differs runs lt =
      let t_is = runs-first high (s.to +ℤ pos 1) t rest runs in
      let t_best : AreBest points (s.to +ℤ pos 1) t.first.cuts = rw (runs-from points high (s.to +ℤ pos 1) t rest runs) at (best-stands points t.from t.first t_is.first) in
      let behind = (k.best (s.to +ℤ pos 1) (omega (arith, ints, h.rises, from)) (omega (arith, ints, lt))).0 in
      let at_end = (k.best s.to (omega (arith, ints, h.rises, from)) (omega (arith, ints, lt))).0 in
      let here = (h.best s.to h.rises (omega (arith, ints))).1 in
      differs (known.unique (s.to +ℤ pos 1) t.first.cuts other.first.cuts t_best behind ∙ known.unique s.to other.first.cuts s.last.cuts at_end here)

  -- two stretches with the same ends are equal
  one-stretch : (s t : Stretch) → IsStretch points s → IsStretch points t → s.from ≡ t.from → s.to ≡ t.to → s ≡ t
  unfolding stretch_of
  one-stretch s t h k from to =
      same_parts s.from t.from s.to t.to s.first t.first s.last t.last from to
      (known.certificate t.from s.first t.first (rw from at h.first) k.first)
      (known.certificate t.to s.last t.last (rw to at h.last) k.last)

  pub one-run : (low high : ℤ) (one other : List Stretch) → Runs points low high one → Runs points low high other → one ≡ other
  one-run low high [] other h k = absurd h
  one-run low high (s ∷ rest) [] h k = absurd k
  one-run low high (s ∷ []) (t ∷ []) h k =
      let same : s ≡ t = one-stretch s t h.0 k.0 (h.1 ∙ sym k.1) (h.2 ∙ sym k.2) in cc
  one-run low high (s ∷ []) (t ∷ u ∷ rest) h k =
      absurd (not-before high t s u rest k.0 h.0 (k.1 ∙ sym h.1) k.2 k.3 (omega (arith, ints, h.2, (first-within points high (t.to +ℤ pos 1) u rest k.3), (runs-rises high (t.to +ℤ pos 1) u rest k.3))))
  one-run low high (s ∷ u ∷ rest) (t ∷ []) h k =
      absurd (not-before high s t u rest h.0 k.0 (h.1 ∙ sym k.1) h.2 h.3 (omega (arith, ints, k.2, (first-within points high (s.to +ℤ pos 1) u rest h.3), (runs-rises high (s.to +ℤ pos 1) u rest h.3))))
  one-run low high (s ∷ u ∷ rest) (t ∷ v ∷ more) h k =
      by_lt_z s.to t.to
      (λ lt. absurd (not-before high s t u rest h.0 k.0 (h.1 ∙ sym k.1) h.2 h.3 lt))
      (λ ge. by_lt_z t.to s.to
      (λ lt. absurd (not-before high t s v more k.0 h.0 (k.1 ∙ sym h.1) k.2 k.3 lt))
      (λ le.
      let to : t.to ≡ s.to = omega (arith, ints, ge, le) in
      let same : s ≡ t = one-stretch s t h.0 k.0 (h.1 ∙ sym k.1) (sym to) in
      let more_is : u ∷ rest ≡ v ∷ more = one-run (s.to +ℤ pos 1) high (u ∷ rest) (v ∷ more) h.3 (rw to at k.3) in
      cc))

  fewer : (s t : Stretch) → IsStretch points s → IsStretch points t → s.to ≤ℤ t.from → t.first.cuts ≢ s.last.cuts → length t.first.cuts < length s.first.cuts
  fewer s t h k le differs =
      let before = best-stands points s.to s.last h.last in
      let behind = best-stands points t.from t.first k.first in
      let few = known.fall s.to t.from s.last.cuts t.first.cuts before behind le in
      elim (cases_eq (length t.first.cuts) (length s.last.cuts)) [
        | inl same ↦ absurd (differs (known.count s.to t.from s.last.cuts t.first.cuts before behind same))
        | inr apart ↦ omega (arith, few, apart, ap length (same-cuts s h))
      ]

  pub few-stretches : (low high : ℤ) (s : Stretch) (rest : List Stretch) → Runs points low high (s ∷ rest) → length (s ∷ rest) ≤ length s.first.cuts + 1
  few-stretches low high s [] h = omega arith
  few-stretches low high s (t ∷ rest) h =
      let after = few-stretches (s.to +ℤ pos 1) high t rest h.3 in
      let from = runs-from points high (s.to +ℤ pos 1) t rest h.3 in
      omega (arith, after, fewer s t h.0 (runs-first high (s.to +ℤ pos 1) t rest h.3) (omega (arith, ints, from)) h.2)

  pub one-path : (low high : ℤ) (one other : List Stretch) → IsPath points low high one → IsPath points low high other → one ≡ other
  one-path low high one other h k = one-run low high one other (runs-of points high low one h) (runs-of points high low other k)

  pub short-path : (low high : ℤ) (stretches : List Stretch) → IsPath points low high stretches → length stretches ≤ max 1 (length points)
  short-path low high [] h = absurd (omega (arith, h.some))
  short-path low high (s ∷ rest) h =
      let runs = runs-of points high low (s ∷ rest) h in
      let is : IsStretch points s = h.each 0 s (omega arith) in
      let best = best-stands points s.from s.first is.first in
      omega (arith, few-stretches low high s rest runs, few-cuts 1 (length points) s.first.cuts best.best.is_cut_list)
