use Rattle.std.proofs.Common.{ap}
use Rattle.track_state.specs.Work.{Work, bare}
use Rattle.track_room.{specs.Taking.Publishes, specs.Visits.DoesOrStays, proofs.Visiting.{does-grows, does-or-stays}, proofs.Visiting.publish-grows}
use Rattle.track_room.proofs.taking.PublishingAct.act.Goals as goal

pub returns : goal.returns
returns c =
    let w : Work = c.args.state.now in
    let u : Work = c.publish.new.self in
    let does : DoesOrStays (Publishes c.args.self.author c.args.self.redone.done) c.publish.result w u = does-or-stays w u (Publishes c.args.self.author c.args.self.redone.done) c.publish.result c.publish.ensures.published (λ same. ap bare same.track) c.publish.ensures.same in
    record { does = does; grows = does-grows w u (Publishes c.args.self.author c.args.self.redone.done) c.publish.result (λ x is. publish-grows w.track u.track c.args.self.author c.args.self.redone.done x is.track) does }
