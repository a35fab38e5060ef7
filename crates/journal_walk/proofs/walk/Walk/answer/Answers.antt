use Rattle.std.proofs.{Common.arith, lemmas.Grind.common_steps}
use Rattle.history_model.specs.Entries.{entries_of}
use Rattle.journal_walk.proofs.Going.{Met, keeps-answered}
use Rattle.journal_walk.proofs.walk.Walk.answer.Goals as goal

pub invariant_of-self-2 : goal.invariant_of-self-2
invariant_of-self-2 c =
    let is = c.in_ok-meet_needs.ensures in
    let met : Met c.self.inside.history.now c.meet_needs.new.track c.meet_needs.new.ahead c.args.self.now = grind (arith, common_steps) in
    let step = c.in_ok-reply.ensures.step in
    keeps-answered (entries_of c.self.inside.history.now) c.meet_needs.new.ahead c.meet_needs.new.track c.step.new.track step.0 c.in_ok-reply.reply met.kept met.met step.2
