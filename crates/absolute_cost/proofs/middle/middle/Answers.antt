use Rattle.std.proofs.{Common.{◌≡◌, ◌+ℤ◌, pos, sym, subst, ℤ, List, length}, lemmas.Int.to_z-of_z}
use Rattle.segment_model.specs.Limits.{IsSmall}
use Rattle.distance_model.specs.Middles.{at_most}
use Rattle.absolute_cost.{specs.Blocks.all_of, proofs.Numbers.{spans, none_under, all_up_to, small-fits}, proofs.middle.middle.Goals.After-abs_diff}
use Rattle.absolute_cost.proofs.middle.middle.Goals as goal

-- the span reaches from the least one to the greatest
top : (c : After-abs_diff) → c.ends_of-ends.result.least +ℤ pos c.abs_diff.result ≡ c.ends_of-ends.result.greatest
top c =
    let low = small-fits c.ends_of-ends.result.least c.ends_of-ends.ensures.small.0 in
    let high = small-fits c.ends_of-ends.result.greatest c.ends_of-ends.ensures.small.1 in
    let span = simp to_z-of_z at c.abs_diff.ensures in
    spans (all_of c.args.pieces.head.now c.args.pieces.whole.now c.args.pieces.tail.now) c.ends_of-ends.result c.abs_diff.result c.requires.some c.ends_of-ends.ensures.between span

pub middle_from-requires-clause-span : goal.middle_from-requires-clause-span
middle_from-requires-clause-span c =
    let low = small-fits c.ends_of-ends.result.least c.ends_of-ends.ensures.small.0 in
    simp to_z-of_z (subst IsSmall (sym (top (goal.at.middle_from-requires-clause-span c).After-abs_diff)) c.ends_of-ends.ensures.small.1)

pub middle_from-requires-clause-above : goal.middle_from-requires-clause-above
middle_from-requires-clause-above c =
    let low = small-fits c.ends_of-ends.result.least c.ends_of-ends.ensures.small.0 in
    simp to_z-of_z (none_under c.ends_of-ends.result (all_of c.args.pieces.head.now c.args.pieces.whole.now c.args.pieces.tail.now) c.ends_of-ends.ensures.between)

pub middle_from-requires-clause-below : goal.middle_from-requires-clause-below
middle_from-requires-clause-below c =
    let low = small-fits c.ends_of-ends.result.least c.ends_of-ends.ensures.small.0 in
    let values : List ℤ = all_of c.args.pieces.head.now c.args.pieces.whole.now c.args.pieces.tail.now in
    simp to_z-of_z (subst (λ (z : ℤ). at_most z values ≡ length values) (sym (top (goal.at.middle_from-requires-clause-below c).After-abs_diff))
    (all_up_to c.ends_of-ends.result values c.ends_of-ends.ensures.between))
