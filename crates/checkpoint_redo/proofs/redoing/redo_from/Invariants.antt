use Rattle.std.proofs.Common.{◌≡◌, ◌+◌, take}
use Rattle.segment_model.specs.Values.{values_by_position}
use Rattle.pelt_core.specs.Seen.{table_of}
use Rattle.checkpoint_redo.proofs.redoing.redo_from.Given as goal

abbrev pub invariant-loop-i : goal.invariant-loop-i
invariant-loop-i g l = record {
  table : l.table ≡ table_of (take l.i (values_by_position l.new)) l.fn.table.penalty l.fn.table.length;
  counted : l.steps + l.fn.front ≡ l.fn.steps + l.i;
}
