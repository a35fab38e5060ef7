use Rattle.std.{proofs.Common.length, specs.Vec.Iter.into_iter_items}
use Rattle.audit_command.proofs.reading.+in_pairs.Given as goal

abbrev pub decreases-in_pairs : goal.decreases-in_pairs
decreases-in_pairs l = length (into_iter_items l.texts)
