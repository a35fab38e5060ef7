use Rattle.std.proofs.{Common.{ap₂, take, arith}, lemmas.Grind.common_steps}
use Rattle.prefix_sums.{specs.Lists.sums_in, proofs.SumLists.sums-take}
use Rattle.prefix_sums.proofs.sum_list.SumList.truncate.Goals as goal

pub returns-clause-items : goal.returns-clause-items
returns-clause-items c = grind (arith, common_steps, ap₂, sums_in, sums-take, take)
