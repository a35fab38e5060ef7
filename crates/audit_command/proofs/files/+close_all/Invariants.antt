use Rattle.std.{proofs.Common.length, specs.Vec.Iter.into_iter_items}
use Rattle.audit_command.proofs.files.+close_all.Given as goal

abbrev pub decreases-close_all : goal.decreases-close_all
decreases-close_all g l = length (into_iter_items l.inputs)
