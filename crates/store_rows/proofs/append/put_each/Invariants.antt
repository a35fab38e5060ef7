use Rattle.std.{proofs.Common.{◌≡◌, ◌++◌, take}, specs.Prelude.flat_map}
use Rattle.track_outside.specs.Kept.{bytes_of}
use Rattle.store_rows.proofs.append.put_each.Given as goal

abbrev pub invariant-loop-item : goal.invariant-loop-item
invariant-loop-item g l = bytes_of l.out.items ≡ bytes_of l.initial.out.items ++ flat_map g.R.Recorded.new_rows (take l.item-index l.items)
