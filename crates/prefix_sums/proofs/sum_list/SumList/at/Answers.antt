use Rattle.std.{proofs.Common.{◌<◌, ap, length, get_or, arith}, specs.Int.w128, proofs.lemmas.Int.to_z-of_z, proofs.lemmas.Grind.common_steps}
use Rattle.prefix_sums.{specs.Lists.Listed, proofs.SumLists.{length-sums, sums-at}, proofs.sum_list.SumList.at.Goals.After-self}
use Rattle.prefix_sums.proofs.sum_list.SumList.at.Goals as goal

inside : (c : After-self) → c.args.i < length c.self.inside.totals.items
inside c = omega (arith, c.requires, ap (λ (l : Listed). length l.items) c.self.view_is, length-sums c.self.inside.counts.items c.self.inside.totals.items c.self.invariant)

pub index-totals-requires : goal.index-totals-requires
index-totals-requires c = omega (arith, inside c, c.self.inside.totals.ok)

pub index-requires : goal.index-requires
index-requires c = omega (arith, inside (goal.at.index-requires c).After-self, c.self.invariant, c.self.inside.counts.ok.0)

pub returns : goal.returns
returns c d = grind (arith, common_steps, inside, goal.at.returns, w128, to_z-of_z, sums-at, get_or)
