use Rattle.std.proofs.{Common.{length, arith}, lemmas.Grind.common_steps}
use Rattle.prefix_sums.proofs.SumLists.{length-sums}
use Rattle.prefix_sums.proofs.sum_list.SumList.len.Goals as goal

pub returns : goal.returns
returns c = grind (arith, common_steps, length-sums, length)
