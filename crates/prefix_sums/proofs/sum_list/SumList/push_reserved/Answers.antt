use Rattle.std.{proofs.Common.{ap₂, arith}, specs.Int.w128, proofs.lemmas.Int.to_z-of_z, proofs.lemmas.Grind.common_steps}
use Rattle.prefix_sums.{specs.Lists.sums_in, proofs.SumLists.sums-push}
use Rattle.prefix_sums.proofs.sum_list.SumList.push_reserved.Goals as goal

pub returns-clause-items : goal.returns-clause-items
returns-clause-items c = grind (arith, common_steps, w128, to_z-of_z, ap₂, sums_in, sums-push)
