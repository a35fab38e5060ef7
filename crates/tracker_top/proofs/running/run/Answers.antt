use Rattle.std.proofs.Common.{refl}
use Rattle.tracker_top.proofs.running.run.Goals as goal

pub returns-then-asks_play-clause-alone : goal.returns-then-asks_play-clause-alone
returns-then-asks_play-clause-alone g c = λ play hunt audit. absurd (play (c.if-asks_play.ensures.0 refl))
