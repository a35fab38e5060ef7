use Rattle.std.proofs.{Common.arith, lemmas.Grind.common_steps}
use Rattle.track_room.proofs.Visiting.{does-grows, does-or-stays, finish-grows}
use Rattle.track_room.proofs.visits.FinishingAct.act.Goals as goal

pub returns : goal.returns
returns c = grind (arith, common_steps, does-or-stays, does-grows, finish-grows, c.finish.new.self, c.finish.ensures.step, c.finish.ensures.same)
