-- What is written at the end of a script, of what was gathered by then.
use Rattle.std.{proofs.Common.{◌≡◌, ℕ, inl, inr, Bool, List, Option, Ok, Err, sym, subst}, specs.Prelude.{◌⊎◌, Result, OnOk, IfErr}}
use Rattle.track_outside.specs.declared.source.Source as source
use Rattle.track_outside.specs.declared.sink.Sink as sink
use Rattle.track_outside.specs.Calls.{Took, TookPart}
use Rattle.request_model.specs.declared.{requests.Request.Request, replies.Reply.Reply}
use Rattle.script_loop.specs.{declared.stop.Stop.Stop, Endings.{HasRead, HasWritten}, Paced.{IsLeft, Paced}, Turns.{Answers, FailsOn, Gathers, StopsSo}}
use Rattle.script_loop.specs.declared.stop.Stop.TheVariants as stop
use Rattle.script_loop.proofs.{Answering.{took_all, failed_on, part_of}, Each.{took-part, failed-part, nothing-part, part-first, each-of}}

module _ {I O S : Type 0} (g : source.Ghosts I) (h : sink.Ghosts O) (first now : I) (old between new : O) (does : S → Request → Option Reply → S → Type 0) (fails : S → S → Type 0) (each : Bool) (before left : S) (pending : List ℕ) where
  -- what was answered, with what became of what is gathered
  ends : (came result : Result (Unit {0}) Stop) (told : Answers g h first now old between does fails each before left pending came) → HasRead g first now told.items result
      → IsLeft fails told.after left result → HasWritten h old new told.text result → TookPart h between new pending → Paced g h first now old new does fails each before left result
  ends came result told reads same writes some = record {
    items = told.items;
    text = told.text;
    read = reads;
    after = told.after;
    output = told.output;
    stands = same;
    wrote = writes;
    by_each = λ is. each-of h does old between new before told.items told.text told.after pending (told.by_each is) some;
  }

  -- the sink failed on it
  fails_on : (came : Result (Unit {0}) Stop) (answered : Stop) (told : Answers g h first now old between does fails each before left pending came) → left ≡ told.after
      → Gathers h old between told.text pending → FailsOn h between new pending answered → Paced g h first now old new does fails each before left (Err answered)
  fails_on came answered told same wrote failed = rw failed.is
      (ends came (Err stop.WriteFault) told told.asks same (failed_on h old between new told.text pending wrote failed.failed) (failed-part h between new pending failed.failed))

  -- it took all of it
  pub ends_ok : (result : Result (Unit {0}) Stop) → Answers g h first now old between does fails each before left pending (Ok tt) → OnOk result (Took h between new pending)
      → IfErr result (FailsOn h between new pending) → Paced g h first now old new does fails each before left result
  ends_ok (Ok done) told took failed =
      ends (Ok tt) (Ok done) told told.read told.stands (took_all h old between new told.text pending told.wrote took) (took-part h between new pending took)
  ends_ok (Err answered) told took failed = fails_on (Ok tt) answered told told.stands told.wrote failed

  -- reading stopped: the sink took all of it then, or failed on it
  ends_read : (why answered : Stop) (told : Answers g h first now old between does fails each before left pending (Err why)) → left ≡ told.after → Gathers h old between told.text pending
      → (Took h old new told.text → HasWritten h old new told.text (Err why)) → ((answered ≡ why) × Took h between new pending) ⊎ FailsOn h between new pending answered
      → Paced g h first now old new does fails each before left (Err answered)
  ends_read why answered told same wrote writes (inl so) = rw so.0
      (ends (Err why) (Err why) told told.read told.stands (writes (took_all h old between new told.text pending wrote so.1)) (took-part h between new pending so.1))
  ends_read why answered told same wrote writes (inr failed) = fails_on (Err why) answered told same wrote failed

  pub ends_stop : (why answered : Stop) → Answers g h first now old between does fails each before left pending (Err why) → StopsSo h between new pending why answered
      → Paced g h first now old new does fails each before left (Err answered)
  ends_stop stop.WriteFault answered told so = rw so.0
      (ends (Err stop.WriteFault) (Err stop.WriteFault) told told.read told.stands (rw so.1 told.wrote) (nothing-part h between new pending so.1))
  ends_stop stop.NoMemory answered told so = rw so.0
      (ends (Err stop.NoMemory) (Err stop.NoMemory) told told.read told.stands
      (subst (TookPart h old new) (sym told.wrote.2) (part-first h old new told.wrote.0 told.wrote.1 (part_of h old between new told.wrote.0 pending told.wrote.3 so.1))) so.1)
  ends_stop stop.ReadFault answered told so = ends_read stop.ReadFault answered told told.stands told.wrote (λ took. took) so
  ends_stop (stop.CutOff offset) answered told so = ends_read (stop.CutOff offset) answered told told.stands told.wrote (λ took. took) so
  ends_stop stop.InputTooLong answered told so = ends_read stop.InputTooLong answered told told.stands told.wrote (λ took. took) so
