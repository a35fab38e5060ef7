use Rattle.std.proofs.{Common.{length, get_or, arith}, lemmas.List.get_or_read, lemmas.Grind.common_steps}
use Rattle.point_list.proofs.Slots.{below-at, order-length, order-read}
use Rattle.point_list.proofs.positions.PositionList.at.Goals as goal

pub index-requires-2 : goal.index-requires-2
index-requires-2 c = grind (arith, common_steps, length, order-length, below-at)

pub returns : goal.returns
returns c d = grind (arith, common_steps, length, order-length, get_or, get_or_read, order-read)
