use Rattle.std.{proofs.Common.{length, false, refl, arith}, specs.Int.w128, proofs.lemmas.Int.to_z-of_z}
use Rattle.segment_model.specs.{Values.cost_between, Computed.least_sum_of}
use Rattle.cost_certificate.proofs.{Whole.totals-are, Bools.not_both}
use Rattle.cost_certificate.proofs.checked.are_tables.Goals as goal
use Rattle.cost_certificate.proofs.checked.are_tables.Goals.{then-least-places-via-then-least-places, then-least-places-via-else-least-places+then-back-places, then-least-places-via-else-least-places+else-back-places+then-pruned-places}

pub returns-then-least-places : goal.returns-then-least-places
returns-then-least-places c = (
  λ e. absurd (not_both false refl e),
  λ h. absurd (elim c.then-least-places.branch [
    | then-least-places-via-then-least-places w ↦ w.if-least-places.true (omega (arith, h.tables.least_length, c.len-places.ensures))
    | then-least-places-via-else-least-places+then-back-places w ↦ w.if-back-places.true (omega (arith, h.tables.back_length, c.len-places.ensures))
    | then-least-places-via-else-least-places+else-back-places+then-pruned-places w ↦ w.if-pruned-places.true (omega (arith, h.tables.pruned_length, c.len-places.ensures))
  ]),
)

pub returns-then-not-are_totals : goal.returns-then-not-are_totals
returns-then-not-are_totals c = (
  λ e. absurd (not_both false refl e),
  λ h.
      let totals = totals-are c.table_law.ensures.in_range (cost_between least_sum_of c.args.square.now.positions) (length c.args.square.now.positions) c.args.penalty c.args.len c.args.least.now c.args.back.now c.args.pruned.now h
      c.requires.low c.requires.high (c.value_costs_law.ensures.in_range least_sum_of c.squares_law.ensures.in_range c.args.square.now.positions c.limits.ensures) in
      absurd (not_both c.are_totals.result c.if-not-are_totals.true (c.are_totals.ensures.1 totals)),
)

pub returns : goal.returns
returns c = simp (to_z-of_z w128 c.args.penalty c.ranges.penalty) at c.are_right.ensures
