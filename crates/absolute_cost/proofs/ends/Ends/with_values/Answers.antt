use Rattle.std.proofs.lemmas.Int.{to_z-of_z}
use Rattle.absolute_cost.proofs.Numbers.{between_more, between_all, wider, value-fits}
use Rattle.absolute_cost.proofs.ends.Ends.with_values.Goals as goal

pub loop-x-preserved : goal.loop-x-preserved
loop-x-preserved c =
    let old = c.loop-x.ends in
    let now = c.with_value-ends.result in
    let fits = value-fits c.args.values.now c.requires.all_small c.loop-x.x-index c.loop-x-test.true in
    let here = simp to_z-of_z at c.with_value-ends.ensures.between in
    record {
      small = c.with_value-ends.ensures.small;
      wider = wider c.args.self old now c.loop-x.invariant.wider c.with_value-ends.ensures.wider;
      between = between_more c.args.values.now c.loop-x.x-index old now c.loop-x-test.true c.loop-x.invariant.between c.with_value-ends.ensures.wider here;
    }

pub returns : goal.returns
returns c = record {
  small = c.loop-x.invariant.small;
  wider = c.loop-x.invariant.wider;
  between = between_all c.args.values.now c.loop-x.x-index c.loop-x.ends c.loop-x-test.false c.loop-x.invariant.between;
}
