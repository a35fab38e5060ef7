use Rattle.track_model.proofs.Regressions.{move-allowed, raise-allowed}
use Rattle.track_model.proofs.laws.follow_law.Goals as goal

pub returns-clause-moves : goal.returns-clause-moves
returns-clause-moves c h number state keeps free room = move-allowed c.regressions_law.ensures.limits h keeps room number state free

pub returns-clause-raises : goal.returns-clause-raises
returns-clause-raises c h s p change legal keeps known last free room =
    raise-allowed c.regressions_law.ensures.limits h keeps room c.publication_law.ensures.last_stands c.regressions_law.ensures.cuts s p change legal known last free
