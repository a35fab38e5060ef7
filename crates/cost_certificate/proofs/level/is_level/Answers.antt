use Rattle.std.{proofs.Common.{ℕ, ◌+◌, ◌*◌, ◌^◌, ◌<◌, ◌≤◌, pos, neg_ℤ, ◌≤ℤ◌, inl, inr, FitsSigned, arith}, specs.Int.w128, proofs.lemmas.Int.{ints, to_z-of_z}}
use Rattle.std.proofs.lemmas.Bool.{cases_eq}
use Rattle.cost_certificate.{specs.Checks.total_at, proofs.Needs.level-more}
use Rattle.cost_certificate.proofs.level.is_level.Goals as goal

pub loop-s-preserved : goal.loop-s-preserved
loop-s-preserved c =
    let s : ℕ = c.loop-s.s in
    let h = c.loop-s.invariant in
    let here = c.args.tables.now.totals s (omega (arith, c.loop-s-test.true, c.args.tables.now.least_length)) in
    let next = c.args.tables.now.totals (s + 1) (omega (arith, c.loop-s-test.true, c.args.tables.now.least_length)) in
    let b_fits : FitsSigned w128 c.args.tables.now.penalty = omega (arith, ints, c.args.tables.now.low, c.args.tables.now.high) in
    let here_fits : FitsSigned w128 (total_at c.args.tables.now c.loop-s.s) = omega (arith, ints, here.0, here.1) in
    let next_fits : FitsSigned w128 (total_at c.args.tables.now (c.loop-s.s + 1)) = omega (arith, ints, next.0, next.1) in
    let bottom_low : neg_ℤ (pos (10 ^ 36)) ≤ℤ c.loop-s.bottom = omega (arith, ints, c.loop-s.bottom-is, h.low) in
    let bottom_high : c.loop-s.bottom ≤ℤ pos (2 * 10 ^ 37) = omega (arith, ints, c.loop-s.bottom-is, h.high) in
    let bottom_fits : FitsSigned w128 c.loop-s.bottom = omega (arith, ints, bottom_low, bottom_high) in
    let new_fits : FitsSigned w128 c.lower_of-bottom.result = record { sfits = c.lower_of-bottom.type_inv } in
    let below : (r : ℕ) → c.args.from ≤ r → r < c.loop-s.s → c.loop-s.bottom ≤ℤ total_at c.args.tables.now r = λ r start lt. omega (arith, ints, c.loop-s.bottom-is, h.bottom r start lt) in
    let both = simp to_z-of_z at c.lower_of-bottom.ensures.both in
    let lower : c.lower_of-bottom.result ≤ℤ c.loop-s.bottom = omega (arith, ints, c.loop-s.bottom-is, both.0) in
    let one = simp to_z-of_z at c.lower_of-bottom.ensures.one in
    let near = simp to_z-of_z at (c.is_near.ensures.total c.if-not-is_near.false) in
    simp to_z-of_z (record {
      level = level-more c.args.tables.now c.loop-s.bottom c.lower_of-bottom.result c.args.from s c.args.end below h.level lower both.1 near (c.is_near.ensures.mark c.if-not-is_near.false);
      bottom = λ r start lt. elim (cases_eq r s) [
        | inl same ↦ rw same both.1
        | inr apart ↦ omega (arith, ints, lower, below r start (omega (arith, lt, apart)))
      ];
      low = elim one [ inl same ↦ omega (arith, ints, same, c.loop-s.bottom-is, bottom_low) | inr same ↦ rw same here.0 ];
      high = omega (arith, ints, lower, bottom_high);
    })

pub returns : goal.returns
returns c = λ e s t start above within. c.loop-s.invariant.level s t start above (omega (arith, within, c.loop-s-test.false))
