use Rattle.history_model.specs.Runs.{Series}
use Rattle.std.{specs.Prelude.{Result, Ok}, specs.declared.alloc.AllocError.AllocError, proofs.Common.{◌≡◌, ap, subst}}
use Rattle.request_model.specs.declared.replies.Reply.{Reply}
use Rattle.request_model.specs.declared.requests.Request.TheVariants as request
use Rattle.track_state.specs.{Redone.Redone, Begun.Begun, Begun.TheVariants.{Known, Unknown}}
use Rattle.track_room.specs.{Asked.IsReplied, Sights.{Home, Sight, SeesMore, Visits}, Visits.{Begins, Finishes}}
use Rattle.track_room.proofs.Segments.{made-still, begun-made, begun-sees, sees-again, told-finished, told-unknown}
use Rattle.track_room.proofs.{Visiting.{if-ok, on-err, visits-err, visits-ok}, machine.MachineLock.segment.Given.Over}
use Rattle.track_room.proofs.machine.MachineLock.segment.Goals as goal
use Rattle.track_room.proofs.machine.MachineLock.segment.Goals.{In_ok-begun}

-- the visit in which the segmentation was begun
begun-as : (g : Over) (c : In_ok-begun g) (b : Begun) → c.in_ok-begun.begun ≡ b → Visits (Begins (record { test = c.args.test.now; metric = c.args.metric.now }) b) c.args.pass.now c.visit.new.pass
begun-as g c b is =
    let s : Series = record { test = c.args.test.now; metric = c.args.metric.now } in
    let told : Result Begun AllocError = Ok c.in_ok-begun.begun in
    subst (λ (x : Begun). Visits (Begins s x) c.args.pass.now c.visit.new.pass) is (visits-ok (Begins s) c.args.pass.now c.visit.new.pass told c.in_ok-begun.ensures)

pub returns-in-Unknown-clause-ok : goal.returns-in-Unknown-clause-ok
returns-in-Unknown-clause-ok g c =
    told-unknown c.args.author c.args.self.now.machine c.args.test.now c.args.metric.now c.in-Unknown.reply c.args.pass.now (ap (λ (h : Home). h.machine) c.requires.lock) c.visit.new.pass
    (begun-as g (goal.at.returns-in-Unknown-clause-ok g c).In_ok-begun (Unknown c.in-Unknown.reply) c.in-Unknown.is)

pub visit-requires-in-Known-clause-needs : goal.visit-requires-in-Known-clause-needs
visit-requires-in-Known-clause-needs g c w is =
    let visit = begun-as g (goal.at.visit-requires-in-Known-clause-needs g c).In_ok-begun (Known c.in-Known.snapshot) c.in-Known.is in
    let made = c.in_ok-redone-in-Known.redone in (
      made-still c.publication_law.ensures.versions c.visit.new.pass w made.done is
          (begun-made c.args.test.now c.args.metric.now c.args.pass.now c.in-Known.snapshot c.visit.new.pass visit c.publication_law.ensures.last_stands made c.in_ok-redone-in-Known.ensures),
      c.in_ok-redone-in-Known.ensures.tabled,
    )

pub returns-in_ok-redone-in-Known-clause-ok : goal.returns-in_ok-redone-in-Known-clause-ok
returns-in_ok-redone-in-Known-clause-ok g c =
    let old : Sight = c.args.pass.now in
    let mid : Sight = c.visit.new.pass in
    let new : Sight = c.visit-in-Known.new.pass in
    let made : Redone = c.in_ok-redone-in-Known.redone in
    let visit = begun-as g (goal.at.returns-in_ok-redone-in-Known-clause-ok g c).In_ok-begun (Known c.in-Known.snapshot) c.in-Known.is in
    if-ok (λ (reply : Reply). Visits (Finishes c.args.author made.done reply) mid new)
    (λ (reply : Reply). IsReplied c.args.author (request.Segment c.args.self.now.machine c.args.test.now c.args.metric.now) reply old new) c.visit-in-Known.result
    (λ reply v. told-finished c.args.author c.args.self.now.machine c.args.test.now c.args.metric.now reply old (ap (λ (h : Home). h.machine) c.requires.lock) c.in-Known.snapshot made mid new visit c.in_ok-redone-in-Known.ensures v)
    (visits-ok (Finishes c.args.author made.done) mid new c.visit-in-Known.result c.visit-in-Known.ensures)

pub returns-in_ok-redone-in-Known-clause-err : goal.returns-in_ok-redone-in-Known-clause-err
returns-in_ok-redone-in-Known-clause-err g c =
    let old : Sight = c.args.pass.now in
    let mid : Sight = c.visit.new.pass in
    let new : Sight = c.visit-in-Known.new.pass in
    let visit = begun-as g (goal.at.returns-in_ok-redone-in-Known-clause-err g c).In_ok-begun (Known c.in-Known.snapshot) c.in-Known.is in
    on-err (SeesMore mid new) (SeesMore old new) c.visit-in-Known.result (λ sees. sees-again old mid new (begun-sees c.args.test.now c.args.metric.now old c.in-Known.snapshot mid visit) sees)
    (visits-err (Finishes c.args.author c.in_ok-redone-in-Known.redone.done) mid new c.visit-in-Known.result c.visit-in-Known.ensures)
