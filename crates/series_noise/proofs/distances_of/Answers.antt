use Rattle.std.proofs.Common.{arith}
use Rattle.series_noise.{specs.Noise.IsDistance, proofs.Distances.one-more}
use Rattle.series_noise.proofs.distances_of.Goals as goal

pub loop-i-preserved : goal.loop-i-preserved
loop-i-preserved c = rw c.in_ok-push.ensures.items (one-more (λ k x. IsDistance c.args.points.now k x) c.loop-i.made.items c.distance.result c.loop-i.i c.loop-i.invariant.0 c.loop-i.invariant.1 c.distance.ensures)

pub returns : goal.returns
returns c = record {
  counted = let size = c.loop-i.invariant.0 in let all = c.len-i-end.ensures in omega (arith, size, all, c.loop-i-test.false, c.loop-i.auto.i-end, c.requires);
  each = λ i lt. c.loop-i.invariant.1 i (let size = c.loop-i.invariant.0 in omega (arith, lt, size));
}
