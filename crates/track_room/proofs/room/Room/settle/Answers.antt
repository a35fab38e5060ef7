use Rattle.std.{specs.Prelude.unwrap_or, proofs.Common.arith, proofs.lemmas.Grind.common_steps}
use Rattle.track_room.{specs.Taking.{Settles, seen_of}, proofs.Jobs.job-stays, proofs.Segments.found-parts}
use Rattle.track_room.proofs.{Standing.below-get, Visited.{changed-err, changed-ok}}
use Rattle.track_room.proofs.room.Room.settle.Goals as goal

pub visit-requires-clause-there : goal.visit-requires-clause-there
visit-requires-clause-there g c = below-get c.args.pass.now c.args.machine c.requires.job.0 c.requires.job.1

pub visit-requires-clause-needs : goal.visit-requires-clause-needs
visit-requires-clause-needs g c s at w is = grind (arith, common_steps, unwrap_or, found-parts, job-stays, seen_of)

pub returns-clause-ok : goal.returns-clause-ok
returns-clause-ok g c = changed-ok c.args.machine c.args.pass.now c.visit.new.pass (Settles c.args.author c.args.question.now c.args.status) c.visit.result c.visit.ensures.visits

pub returns-clause-err : goal.returns-clause-err
returns-clause-err g c = changed-err c.args.machine c.args.pass.now c.visit.new.pass (Settles c.args.author c.args.question.now c.args.status) c.visit.result c.visit.ensures.visits
