use Rattle.std.{proofs.Common.{length, ap₂, arith}, specs.Cmp.Rules.signed_items, specs.Cmp.Lexicographic.bytes_decides, proofs.lemmas.Grind.common_steps}
use Rattle.point_list.{specs.Places.common, specs.Blocks.heads_of, proofs.Joined.same-blocks}
use Rattle.point_list.proofs.blocks.Block.is_same.Goals as goal

pub returns-then-eq : goal.returns-then-eq
returns-then-eq c same = grind (arith, common_steps, bytes_decides, signed_items, heads_of, ap₂, common, same-blocks, length)
