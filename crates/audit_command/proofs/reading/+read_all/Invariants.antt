use Rattle.std.{proofs.Common.length, specs.Vec.Iter.into_iter_items}
use Rattle.audit_command.proofs.reading.+read_all.Given as goal

abbrev pub decreases-read_all : goal.decreases-read_all
decreases-read_all g l = length (into_iter_items l.inputs)
