use Rattle.std.proofs.Common.{◌≡◌, ◌-◌, ◌≤◌, take, drop}
use Rattle.point_list.specs.Blocks.{AreTold}
use Rattle.point_list.proofs.blocks.Block.of.Given as goal

abbrev pub invariant-loop-i : goal.invariant-loop-i
invariant-loop-i l = record {
  positions : l.positions.items ≡ take (l.i - l.from) (drop l.from l.list);
  told : AreTold l.positions.items l.heads.items l.values.items;
  low : l.from ≤ l.i;
}
