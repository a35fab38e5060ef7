use Rattle.std.{proofs.Common.{◌≡◌, ◌++◌, take, map}, specs.Prelude.filter}
use Rattle.track_outside.specs.Kept.{bytes_of}
use Rattle.keep_rows.specs.Rows.{row_of, is_new}
use Rattle.keep_rows.proofs.append.put_machine.Given as goal

abbrev pub invariant-loop-k : goal.invariant-loop-k
invariant-loop-k l = bytes_of l.out.items ≡ bytes_of l.initial.out.items ++ map (row_of l.machine.machine) (filter is_new (take l.k l.machine.history))
