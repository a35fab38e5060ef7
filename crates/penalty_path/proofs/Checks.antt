-- What the check of a path comes to.
use Rattle.std.proofs.Common.{◌≡◌, ℕ, ℤ, ◌^◌, ◌==◌, ◌<◌, inl, inr, List, [], ◌∷◌, length, Bool, true, false, IsTrue, sym, ap, subst, ◌∙◌, pos, ◌+ℤ◌, ◌≤ℤ◌, ◌<ℤ◌, FitsSigned, arith}
use Rattle.std.{specs.Int.w128, proofs.lemmas.Int.ints, proofs.lemmas.Bool.{cases_eq, eq-eqb, ne_eqb}}
use Rattle.segment_model.specs.{Segments.Position, Limits.IsLength}
use Rattle.segment_cost.specs.{Certificate.StandsFor, declared.cert.Cert.Cert}
use Rattle.penalty_path.specs.{declared.stretch.Stretch.Stretch, Paths.{IsRange, AreBest, IsStretch}, Steps.{IsJoined, IsStep}, Known.Known}
use Rattle.penalty_path.proofs.{Known.best-stands, Runs.{Runs, first-within}}

pub apart : IsTrue false → ⊥
apart e = cc

-- a test that doesn't hold, where what it tells does
pub refuted : {P Q : Type 0} (b : Bool) → b ≡ false → (P → IsTrue b) → (Q → P) → (IsTrue false → Q) × (Q → IsTrue false)
refuted b is told from = (λ e. absurd (apart e), λ q. rw is at (told (from q)))

-- what a test that doesn't hold tells
pub is-not : {P : Type 0} (b : Bool) → b ≡ false → (P → IsTrue b) → P → ⊥
is-not b is told p = apart (rw is at (told p))

pub at-true : (b : Bool) → b ≡ true → IsTrue b
at-true b e = e

pub is-none : (b : Bool) (n : ℕ) → b ≡ (n == 0) → b ≡ true → n ≡ 0
is-none b n is e = elim (cases_eq n 0) [ inl none ↦ none | inr some ↦ absurd (not_both (n == 0) (ne_eqb n 0 some) (sym is ∙ e)) ]
  where
    not_both : (b : Bool) → b ≡ false → b ≡ true → ⊥
    not_both b p q = cc

pub is-some : (b : Bool) (n : ℕ) → b ≡ (n == 0) → b ≡ false → 0 < n
is-some b n is e = elim (cases_eq n 0) [ inl none ↦ absurd (not_both (n == 0) (sym is ∙ e) (eq-eqb n 0 none)) | inr some ↦ omega (arith, some) ]
  where
    not_both : (b : Bool) → b ≡ false → b ≡ true → ⊥
    not_both b p q = cc

-- certificates in range that stand for their own penalties and lengths
abbrev pub Stands : List Position → Cert → Type 0
Stands points cert = (pos 0 ≤ℤ cert.penalty) × (cert.penalty ≤ℤ pos (10 ^ 36)) × IsLength cert.length × StandsFor points cert.penalty cert.length cert

one-long : (points : List Position) (b : ℤ) (cert : Cert) → StandsFor points b 1 cert → IsLength cert.length
one-long points b cert h = (omega (arith, h.same_length), omega (arith, h.same_length))

own-parts : (points : List Position) (b : ℤ) (cert : Cert) → StandsFor points b 1 cert → StandsFor points cert.penalty cert.length cert
own-parts points b cert h = subst (λ (len : ℕ). StandsFor points cert.penalty len cert) (sym h.same_length) (subst (λ (z : ℤ). StandsFor points z 1 cert) (sym h.same_penalty) h)

given-parts : (points : List Position) (b : ℤ) (cert : Cert) → cert.penalty ≡ b → cert.length ≡ 1 → StandsFor points cert.penalty cert.length cert → StandsFor points b 1 cert
given-parts points b cert penalty len h = subst (λ (len : ℕ). StandsFor points b len cert) len (subst (λ (z : ℤ). StandsFor points z cert.length cert) penalty h)

-- a stretch of the points in range
abbrev pub IsIn : List Position → Stretch → Type 0
IsIn points s = (pos 0 ≤ℤ s.from) × (s.to ≤ℤ pos (10 ^ 36)) × IsStretch points s

module _ (points : List Position) (s : Stretch) where
  pub first-stands : IsIn points s → Stands points s.first
  first-stands h = (
    omega (arith, ints, h.0, h.2.first.same_penalty),
    omega (arith, ints, h.1, h.2.rises, h.2.first.same_penalty),
    one-long points s.from s.first h.2.first,
    own-parts points s.from s.first h.2.first,
  )

  pub last-stands : IsIn points s → Stands points s.last
  last-stands h = (
    omega (arith, ints, h.0, h.2.rises, h.2.last.same_penalty),
    omega (arith, ints, h.1, h.2.last.same_penalty),
    one-long points s.to s.last h.2.last,
    own-parts points s.to s.last h.2.last,
  )

  -- what is told of the ends
  abbrev pub Ends : Type 0
  Ends = (s.first.penalty ≡ s.from) × (s.last.penalty ≡ s.to) × (s.from ≤ℤ s.to) × (s.first.length ≡ 1) × (s.last.length ≡ 1)

  pub has-ends : IsIn points s → Ends
  has-ends h = (h.2.first.same_penalty, h.2.last.same_penalty, h.2.rises, h.2.first.same_length, h.2.last.same_length)

  pub of-standing : Known points → s.from ≤ℤ s.to → StandsFor points s.from 1 s.first → StandsFor points s.to 1 s.last → s.first.cuts ≡ s.last.cuts → IsStretch points s
  of-standing known rises first last same =
      let at_end : AreBest points s.to s.first.cuts = rw same (best-stands points s.to s.last last) in
      let best = λ (b : ℤ) (above : s.from ≤ℤ b) (below : b ≤ℤ s.to).
      known.between s.from s.to b s.first.cuts (best-stands points s.from s.first first) at_end above below in
      record {
        rises = rises;
        first = first;
        last = last;
        best = λ b above below. (best b above below, rw same at (best b above below));
      }

  pub of-ends : Known points → Ends → StandsFor points s.first.penalty s.first.length s.first
      → StandsFor points s.last.penalty s.last.length s.last → s.first.cuts ≡ s.last.cuts → IsStretch points s
  of-ends known ends first last same =
      of-standing known ends.2 (given-parts points s.from s.first ends.0 ends.3 first) (given-parts points s.to s.last ends.1 ends.4 last) same

pub joined-below : (high : ℤ) (s : Stretch) (more : List Stretch) → IsJoined high s more → s.to ≤ℤ high
joined-below high s [] h = omega (arith, ints, h)
joined-below high s (t ∷ rest) h = omega (arith, ints, h.0)

-- an end below the range's, and the range behind it
pub record IsBelow (from to high : ℤ) : Type 0 where
  pub fits : FitsSigned w128 to
  pub next_fits : FitsSigned w128 (to +ℤ pos 1)
  pub range : IsRange (to +ℤ pos 1) high

module _ (points : List Position) (from high : ℤ) (s : Stretch) where
  pub step-range : (more : List Stretch) → IsRange from high → IsStep points from high s more → IsIn points s
  step-range more range h = (omega (arith, ints, range.above, h.1), omega (arith, ints, range.below, joined-below high s more h.2), h.0)

  pub step-of : (more : List Stretch) → Runs points from high (s ∷ more) → IsStep points from high s more
  step-of [] h = h
  step-of (t ∷ rest) h =
      let after = first-within points high (s.to +ℤ pos 1) t rest h.3 in
      (h.0, h.1, (omega (arith, ints, after), h.2))

  pub last-run : (more : List Stretch) → more ≡ [] → IsStep points from high s more → Runs points from high (s ∷ more)
  last-run [] e h = h
  last-run (t ∷ rest) e h = absurd (omega (arith, ap length e))

  pub next-run : (more : List Stretch) → 0 < length more → IsStep points from high s more → Runs points (s.to +ℤ pos 1) high more → Runs points from high (s ∷ more)
  next-run [] some h runs = absurd runs
  next-run (t ∷ rest) some h runs = (h.0, h.1, h.2.1, runs)

  pub run-next : (more : List Stretch) → 0 < length more → Runs points from high (s ∷ more) → Runs points (s.to +ℤ pos 1) high more
  run-next [] some runs = absurd (omega (arith, some))
  run-next (t ∷ rest) some runs = runs.3

  pub below-high : (more : List Stretch) → 0 < length more → IsStep points from high s more → s.to <ℤ high
  below-high [] some h = absurd (omega (arith, some))
  below-high (t ∷ rest) some h = h.2.0

  -- the end of a stretch that isn't the last
  pub below-range : (more : List Stretch) → 0 < length more → IsRange from high → IsStep points from high s more → IsBelow from s.to high
  below-range more some range h =
      let lt = below-high more some h in
      record {
        fits = omega (arith, ints, range.above, range.below, h.0.rises, h.1, lt);
        next_fits = omega (arith, ints, range.above, range.below, h.0.rises, h.1, lt);
        range = record { above = omega (arith, ints, range.above, h.0.rises, h.1); rises = omega (arith, ints, lt); below = range.below };
      }
