-- Certificates at greater penalties, the nearest first.
use Rattle.std.proofs.Common.{◌≡◌, ◌≢◌, ℕ, ℤ, ◌+◌, ◌-◌, ◌*◌, ◌<◌, List, [], ◌∷◌, ◌++◌, length, reverse, sym, ap, subst, pos, unsigned_abs, ◌+ℤ◌, ◌-ℤ◌, ◌≤ℤ◌, ◌<ℤ◌, arith}
use Rattle.std.proofs.lemmas.{Int.{ints, by_lt_z}, List.{reverse-append, length-reverse, length-append}}
use Rattle.segment_model.specs.Segments.{Position}
use Rattle.segment_cost.specs.{Certificate.StandsFor, declared.cert.Cert.Cert}

-- certificates that stand for rising penalties up to the greatest
abbrev pub Ahead : List Position → ℤ → ℤ → List Cert → Type 0
Ahead points now high [] = now ≡ high
Ahead points now high (c ∷ cs) = (now <ℤ c.penalty) × StandsFor points c.penalty 1 c × Ahead points c.penalty high cs

module _ (points : List Position) (high : ℤ) where
  pub few-ahead : (now : ℤ) (cs : List Cert) → Ahead points now high cs → pos (length cs) ≤ℤ (high -ℤ now)
  few-ahead now [] h = omega (arith, ints, h)
  few-ahead now (c ∷ cs) h = omega (arith, ints, h.0, few-ahead c.penalty cs h.2)

pub next-but-one : (now next : ℤ) → now <ℤ next → next ≢ now +ℤ pos 1 → (now +ℤ pos 1) <ℤ next
next-but-one now next lt apart = by_lt_z (now +ℤ pos 1) next (λ far. far) (λ le. absurd (apart (omega (arith, ints, lt, le))))

-- a step taken: the nearest goes
pub taken-smaller : (high now next : ℤ) (n m : ℕ) → pos n ≤ℤ (high -ℤ now) → n ≡ m + 1 → now <ℤ next → next ≤ℤ high
    → 2 * unsigned_abs (high -ℤ next) - m < 2 * unsigned_abs (high -ℤ now) - n
taken-smaller high now next n m few is lt le = omega (arith, ints)

-- a step before it: one more is put in front
pub put-smaller : (high now : ℤ) (n m : ℕ) → pos n ≤ℤ (high -ℤ now) → 0 < n → m ≡ n + 1 → 2 * unsigned_abs (high -ℤ now) - m < 2 * unsigned_abs (high -ℤ now) - n
put-smaller high now n m few some is = omega (arith, ints)

module _ (points : List Position) (high now : ℤ) (all rest : List Cert) (next : Cert) (popped : all ≡ rest ++ next ∷ []) (ahead : Ahead points now high (reverse all)) where
  -- the nearest, and those behind it
  pub nearest : Ahead points now high (next ∷ reverse rest)
  nearest = rw (popped, reverse-append rest (next ∷ [])) at ahead

  few : pos (length all) ≤ℤ (high -ℤ now)
  few = rw (length-reverse all) at (few-ahead points high now (reverse all) ahead)

  size : length all ≡ length rest + 1
  size = omega (arith, ap length popped, length-append rest (next ∷ []))

  pub within : next.penalty ≤ℤ high
  within = omega (arith, ints, few-ahead points high next.penalty (reverse rest) nearest.2)

  pub smaller-taken : 2 * unsigned_abs (high -ℤ next.penalty) - length rest < 2 * unsigned_abs (high -ℤ now) - length all
  smaller-taken = taken-smaller high now next.penalty (length all) (length rest) few size nearest.0 within

  -- a certificate between is put in front
  pub put-between : (cert : Cert) → now <ℤ cert.penalty → cert.penalty <ℤ next.penalty → StandsFor points cert.penalty 1 cert
      → Ahead points now high (reverse ((rest ++ next ∷ []) ++ cert ∷ []))
  put-between cert above below stands =
      rw (reverse-append (rest ++ next ∷ []) (cert ∷ []), reverse-append rest (next ∷ [])) (above, stands, (below, nearest.1, nearest.2))

  pub smaller-put : (cert : Cert) → 2 * unsigned_abs (high -ℤ now) - length ((rest ++ next ∷ []) ++ cert ∷ []) < 2 * unsigned_abs (high -ℤ now) - length all
  smaller-put cert =
      put-smaller high now (length all) (length ((rest ++ next ∷ []) ++ cert ∷ [])) few (omega (arith, size))
      (omega (arith, length-append (rest ++ next ∷ []) (cert ∷ []), length-append rest (next ∷ []), size))

-- the first: the greatest penalty, where it isn't the least, and nothing where it is
pub one-ahead : (points : List Position) (low high : ℤ) (all : List Cert) (cert : Cert) → all ≡ cert ∷ [] → low <ℤ high → StandsFor points high 1 cert → Ahead points low high (reverse all)
one-ahead points low high all cert is lt stands =
    rw is (omega (arith, ints, lt, stands.same_penalty), subst (λ (z : ℤ). StandsFor points z 1 cert) (sym stands.same_penalty) stands, stands.same_penalty)

pub none-ahead : (points : List Position) (low high : ℤ) (all : List Cert) → all ≡ [] → low ≡ high → Ahead points low high (reverse all)
none-ahead points low high all is e = rw is e
