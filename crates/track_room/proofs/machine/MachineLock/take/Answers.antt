use Rattle.std.{proofs.Common.{◌≡◌, List, ap, subst}, specs.Prelude.{IfOk, IfSome}}
use Rattle.history_model.specs.{declared.entries.Entry.Entry, Entries.entries_of}
use Rattle.track_model.specs.Tracks.{Track}
use Rattle.track_state.specs.Work.{history_of}
use Rattle.track_room.{specs.Taking.seen_of, specs.Visits.{DoesOrStays, Stays}, proofs.Visiting.{stays-sees, visits-as, visits-ok}}
use Rattle.track_room.proofs.machine.MachineLock.take.Goals as goal

pub returns : goal.returns
returns g c =
    let v = c.visit.ensures in
    let seen : history_of v.after ≡ seen_of c.visit.new.pass = ap (λ (t : Track). entries_of t.history) v.left in
    record {
      sees = stays-sees c.args.pass.now c.visit.new.pass (visits-as _ Stays (λ w u does. does.1) c.args.pass.now c.visit.new.pass v);
      taken = visits-ok g.T.Take.takes c.args.pass.now c.visit.new.pass c.visit.result
          (visits-as _ (DoesOrStays g.T.Take.takes c.visit.result) (λ w u does. does.0) c.args.pass.now c.visit.new.pass v);
      known = subst (λ (h : List Entry). IfOk c.visit.result (λ found. IfSome found (λ x. g.T.Take.knows x h))) seen v.does.2;
    }
