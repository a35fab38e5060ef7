use Rattle.std.{proofs.Common.{◌≡◌, map, take}, specs.Arc.arc_value}
use Rattle.point_list.proofs.frozen.owners.Given as goal

abbrev pub invariant-loop-block : goal.invariant-loop-block
invariant-loop-block l = map arc_value l.made.items ≡ map arc_value (take l.block-index l.blocks)
