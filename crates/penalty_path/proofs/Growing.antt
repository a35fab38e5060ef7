-- A path with its last stretch up to a greater penalty, and with a stretch more.
use Rattle.std.proofs.{Common.{◌≡◌, ◌≢◌, ℤ, List, [], ◌∷◌, ◌++◌, length, ◌<◌, inl, inr, refl, sym, subst, pos, ◌+ℤ◌, ◌≤ℤ◌, ◌<ℤ◌, arith}, lemmas.Int.ints}
use Rattle.segment_model.specs.Segments.{Position}
use Rattle.segment_cost.specs.{Certificate.StandsFor, declared.cert.Cert.Cert}
use Rattle.penalty_path.specs.{declared.stretch.Stretch.Stretch, Paths.{IsStretch, IsPath}, Growing.{single, extended}, Known.Known}
use Rattle.penalty_path.proofs.{Runs.{Runs, runs-of, path-of}, Whole.same-cuts, Checks.of-standing, Known.best-stands}
use Rattle.std.proofs.lemmas.Bool.{cases_eq}

module _ (points : List Position) (known : Known points) where
  extended-stretch : (s : Stretch) (cert : Cert) → IsStretch points s → StandsFor points cert.penalty 1 cert → s.to <ℤ cert.penalty → s.last.cuts ≡ cert.cuts → IsStretch points (extended s cert)
  extended-stretch s cert h stands lt same =
      let all : s.first.cuts ≡ cert.cuts = rw same at (same-cuts points known s h) in
      of-standing points (extended s cert) known (omega (arith, ints, h.rises, lt)) h.first stands all

  single-stretch : (cert : Cert) → StandsFor points cert.penalty 1 cert → IsStretch points (single cert)
  single-stretch cert stands = of-standing points (single cert) known (omega (arith, ints)) stands stands refl

  extended-runs : (low : ℤ) (done : List Stretch) (s : Stretch) (cert : Cert) → Runs points low s.to (done ++ s ∷ []) → StandsFor points cert.penalty 1 cert → s.to <ℤ cert.penalty
      → s.last.cuts ≡ cert.cuts → Runs points low cert.penalty (done ++ extended s cert ∷ [])
  extended-runs low [] s cert h stands lt same = (extended-stretch s cert h.0 stands lt same, h.1, refl)
  extended-runs low (d ∷ []) s cert h stands lt same = (h.0, h.1, h.2, extended-runs (d.to +ℤ pos 1) [] s cert h.3 stands lt same)
  extended-runs low (d ∷ e ∷ ds) s cert h stands lt same = (h.0, h.1, h.2, extended-runs (d.to +ℤ pos 1) (e ∷ ds) s cert h.3 stands lt same)

  appended-runs : (low : ℤ) (done : List Stretch) (s : Stretch) (cert : Cert) → Runs points low s.to (done ++ s ∷ []) → StandsFor points cert.penalty 1 cert → cert.penalty ≡ s.to +ℤ pos 1
      → cert.cuts ≢ s.last.cuts → Runs points low cert.penalty ((done ++ s ∷ []) ++ single cert ∷ [])
  appended-runs low [] s cert h stands next differs = (h.0, h.1, differs, (single-stretch cert stands, next, refl))
  appended-runs low (d ∷ []) s cert h stands next differs = (h.0, h.1, h.2, appended-runs (d.to +ℤ pos 1) [] s cert h.3 stands next differs)
  appended-runs low (d ∷ e ∷ ds) s cert h stands next differs = (h.0, h.1, h.2, appended-runs (d.to +ℤ pos 1) (e ∷ ds) s cert h.3 stands next differs)

  pub extended-path : (low : ℤ) (done : List Stretch) (s : Stretch) (cert : Cert) → IsPath points low s.to (done ++ s ∷ []) → StandsFor points cert.penalty 1 cert → s.to <ℤ cert.penalty
      → s.last.cuts ≡ cert.cuts → IsPath points low cert.penalty (done ++ extended s cert ∷ [])
  extended-path low done s cert h stands lt same =
      path-of points cert.penalty low (done ++ extended s cert ∷ []) (extended-runs low done s cert (runs-of points s.to low (done ++ s ∷ []) h) stands lt same)

  pub appended-path : (low : ℤ) (done : List Stretch) (s : Stretch) (cert : Cert) → IsPath points low s.to (done ++ s ∷ []) → StandsFor points cert.penalty 1 cert → cert.penalty ≡ s.to +ℤ pos 1
      → cert.cuts ≢ s.last.cuts → IsPath points low cert.penalty ((done ++ s ∷ []) ++ single cert ∷ [])
  appended-path low done s cert h stands next differs =
      path-of points cert.penalty low ((done ++ s ∷ []) ++ single cert ∷ []) (appended-runs low done s cert (runs-of points s.to low (done ++ s ∷ []) h) stands next differs)

  single-path : (cert : Cert) → StandsFor points cert.penalty 1 cert → IsPath points cert.penalty cert.penalty (single cert ∷ [])
  single-path cert stands = path-of points cert.penalty cert.penalty (single cert ∷ []) (single-stretch cert stands, refl, refl)

  pub single-path-at : (b : ℤ) (cert : Cert) → StandsFor points b 1 cert → IsPath points b b (single cert ∷ [])
  single-path-at b cert stands =
      subst (λ (z : ℤ). IsPath points z z (single cert ∷ [])) stands.same_penalty
      (single-path cert (subst (λ (z : ℤ). StandsFor points z 1 cert) (sym stands.same_penalty) stands))

last-run : (points : List Position) (low high : ℤ) (done : List Stretch) (s : Stretch) → Runs points low high (done ++ s ∷ []) → IsStretch points s × (low ≤ℤ s.from)
last-run points low high [] s h = (h.0, omega (arith, ints, h.1))
last-run points low high (d ∷ []) s h =
    let after = last-run points (d.to +ℤ pos 1) high [] s h.3 in (after.0, omega (arith, ints, after.1, h.0.rises, h.1))
last-run points low high (d ∷ e ∷ ds) s h =
    let after = last-run points (d.to +ℤ pos 1) high (e ∷ ds) s h.3 in (after.0, omega (arith, ints, after.1, h.0.rises, h.1))

-- the last stretch of a path
pub last-stretch : (points : List Position) (low high : ℤ) (done : List Stretch) (s : Stretch) → IsPath points low high (done ++ s ∷ []) → IsStretch points s × (low ≤ℤ s.from)
last-stretch points low high done s h = last-run points low high done s (runs-of points high low (done ++ s ∷ []) h)

-- a certificate for a greater penalty with other cuts has fewer
pub fewer-cuts : (points : List Position) → Known points → (s : Stretch) (cert : Cert) → IsStretch points s → StandsFor points cert.penalty 1 cert → s.to <ℤ cert.penalty
    → (s.last.cuts ≡ cert.cuts → ⊥) → length cert.cuts < length s.last.cuts
fewer-cuts points known s cert h stands lt apart =
    let here = best-stands points s.to s.last h.last in
    let there = best-stands points cert.penalty cert stands in
    let few = known.fall s.to cert.penalty s.last.cuts cert.cuts here there (omega (arith, ints, lt)) in
    elim (cases_eq (length cert.cuts) (length s.last.cuts)) [
      | inl same ↦ absurd (apart (sym (known.count s.to cert.penalty s.last.cuts cert.cuts here there same)))
      | inr differ ↦ omega (arith, few, differ)
    ]
