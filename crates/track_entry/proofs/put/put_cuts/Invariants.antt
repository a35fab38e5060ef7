use Rattle.std.{proofs.Common.{◌≡◌, ◌++◌, take, map, decimal}, specs.Prelude.flat_map}
use Rattle.track_entry.specs.Texts.{next}
use Rattle.track_entry.proofs.put.put_cuts.Given as goal

abbrev pub invariant-loop-cut : goal.invariant-loop-cut
invariant-loop-cut l = l.out.items ≡ l.fn.out.items ++ flat_map next (map decimal (take l.cut-index l.cuts))
