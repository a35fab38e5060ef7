use Rattle.std.proofs.{Common.{pos, ◌≤◌, ◌+◌, ◌*◌, length, get_or, arith}, lemmas.Int.to_z-of_z}
use Rattle.absolute_cost.{specs.Between.AreWider, proofs.Numbers.{not_above, wider, between_all, value-fits}, proofs.Counts.blocks_more}
use Rattle.absolute_cost.proofs.blocks.with_blocks.Goals as goal

pub loop-k-preserved : goal.loop-k-preserved
loop-k-preserved c =
    let old = c.loop-k.wide in
    let low = c.with_value-low.result in
    let now = c.with_value-wide.result in
    let both : AreWider old now = wider old low now c.with_value-low.ensures.wider c.with_value-wide.ensures.wider in
    let fits : 32 * c.loop-k.k + 32 ≤ length c.args.whole.now = omega (arith, c.loop-k-test.true) in
    let first = value-fits c.args.whole.now c.requires.all_small (32 * c.loop-k.k) (omega (arith, fits)) in
    let last = value-fits c.args.whole.now c.requires.all_small (32 * c.loop-k.k + 31) (omega (arith, fits)) in
    let above = simp to_z-of_z at c.with_value-low.ensures.between in
    let below = simp to_z-of_z at c.with_value-wide.ensures.between in
    let least = not_above now.least low.least (get_or c.args.whole.now (32 * c.loop-k.k) (pos 0)) c.with_value-wide.ensures.wider.0 above.0 in
    record {
      small = c.with_value-wide.ensures.small;
      wider = wider c.args.ends old now c.loop-k.invariant.wider both;
      between = blocks_more c.loop-k.k old now c.args.whole.now c.requires.blocks fits c.loop-k.invariant.between both least below.1;
    }

pub returns : goal.returns
returns c = record {
  small = c.loop-k.invariant.small;
  wider = c.loop-k.invariant.wider;
  between = between_all c.args.whole.now (32 * c.loop-k.k) c.loop-k.wide (omega (arith, c.loop-k-test.false, c.requires.blocks.whole)) c.loop-k.invariant.between;
}
