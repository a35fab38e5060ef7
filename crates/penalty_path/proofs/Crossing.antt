-- Where the totals of two cut lists cross, and that one of the lists ends there.
use Rattle.std.proofs.Common.{◌≡◌, ℕ, ℤ, zero, suc, ◌+◌, ◌*◌, ◌<◌, ◌≤◌, List, length, inl, inr, ap, subst, pos, negsuc, ◌+ℤ◌, ◌-ℤ◌, ◌*ℤ◌, ◌≤ℤ◌, ◌<ℤ◌, arith}
use Rattle.std.{specs.Int.int_div_euclid, proofs.lemmas.Int.ints, proofs.Math.Nat.mul-le-mul_left}
use borrow.Author.Differences.{up, down, le_out}
use Rattle.segment_model.specs.Segments.{Position}
use Rattle.segment_cost.specs.{Certificate.StandsFor, declared.cert.Cert.Cert}
use Rattle.penalty_path.{specs.Paths.AreBest, specs.Crossing.{Crosses, Parts, Turn}, specs.Known.Known, proofs.Known.best-stands, proofs.Penalties.scale-sub}

scale-parts : (m k d : ℕ) (x : ℤ) → m ≡ k + d → pos m *ℤ x ≡ pos k *ℤ x +ℤ pos d *ℤ x
scale-parts m k d x e = omega (arith, ints, ap (λ (n : ℕ). n * up x) e, ap (λ (n : ℕ). n * down x) e)

scale-mono : (d : ℕ) (a b : ℤ) → a ≤ℤ b → (pos d *ℤ a) ≤ℤ (pos d *ℤ b)
scale-mono d a b h = omega (arith, ints, mul-le-mul_left d (le_out a b h))

scale-next : (d : ℕ) (a : ℤ) → pos d *ℤ (a +ℤ pos 1) ≡ pos d *ℤ a +ℤ pos d
scale-next zero a = omega (arith, ints)
scale-next (suc d) a = omega (arith, ints, scale-next d a)

floor-parts : (a : ℤ) (k : ℕ) → 0 < k
    → (up (int_div_euclid a (pos k)) * k + down a ≤ down (int_div_euclid a (pos k)) * k + up a) × (down (int_div_euclid a (pos k)) * k + up a < up (int_div_euclid a (pos k)) * k + down a + k)
floor-parts (pos a) k h = omega arith
floor-parts (negsuc a) k h = omega arith

floor-of : (a : ℤ) (k : ℕ) (q : ℤ) → (up q * k + down a ≤ down q * k + up a) × (down q * k + up a < up q * k + down a + k) → ((pos k *ℤ q) ≤ℤ a) × (a <ℤ (pos k *ℤ q +ℤ pos k))
floor-of a k q h = (omega (arith, ints, h.0), omega (arith, ints, h.1))

-- a total as a line
line : (k : ℕ) (c t b x : ℤ) → c +ℤ pos k *ℤ b ≡ t → t +ℤ pos k *ℤ (x -ℤ b) ≡ c +ℤ pos k *ℤ x
line k c t b x e = omega (arith, ints, e, scale-sub k x b)

module _ (last next : Cert) (c1 c2 : ℤ) (d : ℕ) (more : length last.cuts ≡ length next.cuts + d) (some : 0 < d)
    (last_is : c1 +ℤ pos (length last.cuts) *ℤ last.penalty ≡ last.total) (next_is : c2 +ℤ pos (length next.cuts) *ℤ next.penalty ≡ next.total) where
  -- the totals at a penalty, as lines, and the cuts of the longer list in two parts
  lines-at : (x : ℤ) → (last.total +ℤ pos (length last.cuts) *ℤ (x -ℤ last.penalty) ≡ c1 +ℤ pos (length last.cuts) *ℤ x)
      × (next.total +ℤ pos (length next.cuts) *ℤ (x -ℤ next.penalty) ≡ c2 +ℤ pos (length next.cuts) *ℤ x)
      × (pos (length last.cuts) *ℤ x ≡ pos (length next.cuts) *ℤ x +ℤ pos d *ℤ x)
  lines-at x = (
    line (length last.cuts) c1 last.total last.penalty x last_is,
    line (length next.cuts) c2 next.total next.penalty x next_is,
    scale-parts (length last.cuts) (length next.cuts) d x more,
  )

  pub crosses : (q : ℤ) → q ≡ int_div_euclid (c2 -ℤ c1) (pos d) → Crosses last next q
  crosses q is =
      let floor = floor-of (c2 -ℤ c1) d (int_div_euclid (c2 -ℤ c1) (pos d)) (floor-parts (c2 -ℤ c1) d some) in
      let floor' = rw (← is) at floor in
      record {
        below = λ x lt. omega (arith, ints, some, floor'.0, scale-mono d (x +ℤ pos 1) q (omega (arith, ints, lt)), scale-next d x, lines-at x);
        above = λ x gt. omega (arith, ints, some, floor'.1, scale-mono d (q +ℤ pos 1) x (omega (arith, ints, gt)), scale-next d q, lines-at x);
      }

module _ (last next : Cert) (q : ℤ) (h : Crosses last next q) where
  pub parts-between : Parts last next q
  parts-between = record { behind = inr (h.above (q +ℤ pos 1) (omega (arith, ints))); before = inr (h.below (q -ℤ pos 1) (omega (arith, ints))) }

  pub parts-first : (middle : ℤ) → middle ≡ last.penalty +ℤ pos 1 → q ≤ℤ last.penalty → Parts last next middle
  parts-first middle is le = record { behind = inr (h.above (middle +ℤ pos 1) (omega (arith, ints, is, le))); before = inl is }

  pub parts-last : (middle : ℤ) → middle ≡ next.penalty -ℤ pos 1 → next.penalty ≤ℤ q → Parts last next middle
  parts-last middle is ge = record { behind = inl (omega (arith, ints, is)); before = inr (h.below (middle -ℤ pos 1) (omega (arith, ints, is, ge))) }

pub turns : (points : List Position) → Known points → (last next : Cert) (middle : ℤ) → StandsFor points last.penalty 1 last → StandsFor points next.penalty 1 next
    → (last.cuts ≡ next.cuts → ⊥) → Parts last next middle → Turn points last next middle
turns points known last next middle last_stands next_stands apart parts = record {
  ends = λ best. elim parts.behind [
    | inl at ↦ apart (known.unique (middle +ℤ pos 1) last.cuts next.cuts best (subst (λ (z : ℤ). AreBest points z next.cuts) at (best-stands points next.penalty next next_stands)))
    | inr lt ↦ absurd (omega (arith, ints, lt, known.cheapest (middle +ℤ pos 1) last next last_stands next_stands best))
  ];
  begins = λ best. elim parts.before [
    | inl at ↦
        let here : last.penalty ≡ middle -ℤ pos 1 = omega (arith, ints, at) in
        apart (known.unique (middle -ℤ pos 1) last.cuts next.cuts (subst (λ (z : ℤ). AreBest points z last.cuts) here (best-stands points last.penalty last last_stands)) best)
    | inr lt ↦ absurd (omega (arith, ints, lt, known.cheapest (middle -ℤ pos 1) next last next_stands last_stands best))
  ];
}
