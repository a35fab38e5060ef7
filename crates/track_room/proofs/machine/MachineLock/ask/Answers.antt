use Rattle.std.proofs.Common.{ℕ, List, length, take, sym, ap, subst, ◌∙◌, arith}
use Rattle.history_lock.specs.Marks.{entries}
use Rattle.history_model.specs.{declared.entries.Entry.Entry, Entries.entries_of}
use Rattle.request_model.specs.declared.{replies.Reply.Reply, requests.Request.Request}
use Rattle.track_model.specs.Tracks.{ComesTo}
use Rattle.track_state.specs.Work.{bare}
use Rattle.track_room.specs.{Asked.IsReplied, Sights.{Home, Sight, Visits}, Visits.Answers}
use Rattle.track_room.proofs.{Replying.{beside, replied, seen-entries, sees-long, step-seen}, Visiting.{bare-added, if-ok, visits-err, visits-ok}}
use Rattle.track_room.proofs.machine.MachineLock.ask.Goals as goal

pub returns-in_default : goal.returns-in_default
returns-in_default g c =
    let q : Request = c.args.request.now in
    let old : Sight = c.args.pass.now in
    let new : Sight = c.visit.new.pass in
    record {
      ok = if-ok (λ (reply : Reply). Visits (Answers c.args.author q reply) old new) (λ (reply : Reply). IsReplied c.args.author q reply old new) c.visit.result
          (λ reply v.
          let h : List Entry = entries_of (entries v.found.seen) in
          let version : ℕ = length v.found.seen in
          let seen = seen-entries v.found v.before v.was in
          replied c.args.author q reply old v.found new version 0 v.does.0 (ap (λ (home : Home). home.machine) c.requires.lock ∙ sym c.requires.machine) v.sees v.adds
          (beside (take version h) 0 h q v.does.0 c.requires.asked c.in_default.not-Segment (subst (λ (g : List Entry). ComesTo g 0 q v.does.0) seen v.does.1)) (sees-long old v.found v.sees) (omega arith)
          (step-seen c.args.author v.found new v.before v.after v.does.0 reply v.was v.left (ap bare v.does.2.track ∙ bare-added c.args.author v.before.track v.does.0.adds) v.does.2.told))
          (visits-ok (Answers c.args.author q) old new c.visit.result c.visit.ensures);
      err = visits-err (Answers c.args.author q) old new c.visit.result c.visit.ensures;
    }
