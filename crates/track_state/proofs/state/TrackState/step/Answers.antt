use Rattle.track_state.proofs.Stepping.{step-covers}
use Rattle.track_state.proofs.state.TrackState.step.Goals as goal

pub invariant_of-self-2 : goal.invariant_of-self-2
invariant_of-self-2 c =
    step-covers c.touch_law.ensures.last c.touch_law.ensures.past c.touch_law.ensures.known c.publication_law.ensures.known c.stale_law.ensures
    c.args.author c.self.inside.track c.step.new.track c.history_law.ensures.legal c.self.inside.seen c.self.inside.touched c.self.invariant
    c.in_ok-reply.ensures.step.0.adds c.in_ok-reply.ensures.step.2.track
