-- Private: no public contract cites this. What a sink took of a text that is written to it in parts.
use Rattle.std.{proofs.Common.{◌≡◌, ℕ, List, ◌++◌, length, sym, ap, subst, ◌∙◌, arith, append_assoc, length-append, Err}, specs.Io.KnownBytes.append_known}
use Rattle.std.proofs.{lemmas.List.take-append-le, Math.Seq.take-append_seam}
use Rattle.track_outside.specs.{Calls.{Took, FailedIn, TookPart}, declared.sink.Sink.Ghosts, declared.out_error.OutError.OutError}
use Rattle.track_outside.{specs.declared.out_error.OutError.TheVariants.{Failed, NoMemory}, proofs.InParts.{took_more, failed_more, failed_first, part_more}}
use Rattle.journal_text.specs.Writing.{Writes, Pends}

module _ {O : Type 0} (g : Ghosts O) where
  took-first : (old new : O) (part more : List ℕ) → Took g old new part → TookPart g old new (part ++ more)
  took-first old new part more took = record {
    part = (length part, omega (arith, length-append part more), took.taken ∙ ap (append_known (g.taken old)) (sym (take-append_seam part more)));
    counts = took.counts;
  }

  part-first : (old new : O) (part more : List ℕ) → TookPart g old new part → TookPart g old new (part ++ more)
  part-first old new part more some =
      record { part = (some.part.0, omega (arith, some.part.1, length-append part more), some.part.2 ∙ ap (append_known (g.taken old)) (sym (take-append-le some.part.0 part more some.part.1))); counts = some.counts }

  -- memory was wanting for more
  pub pends-part : (old new : O) (text pending rest whole : List ℕ) → Pends g old new text pending → whole ≡ text ++ rest → TookPart g old new whole
  pends-part old new text pending rest whole told is =
      subst (TookPart g old new) (sym (is ∙ ap (λ t. t ++ rest) told.parts ∙ append_assoc told.handed pending rest)) (took-first old new told.handed (pending ++ rest) told.took)

  -- some more is pending
  pub pends-more : (old new : O) (text pending more now : List ℕ) → Pends g old new text pending → now ≡ pending ++ more → Pends g old new (text ++ more) now
  pends-more old new text pending more now told is = record {
    handed = told.handed;
    parts = ap (λ t. t ++ more) told.parts ∙ append_assoc told.handed pending more ∙ ap (λ t. told.handed ++ t) (sym is);
    took = told.took;
  }

  pub pends-on : (old between new : O) (text pending rest : List ℕ) → Pends g old between text pending → Pends g between new pending rest → Pends g old new text rest
  pends-on old between new text pending rest told next = record {
    handed = told.handed ++ next.handed;
    parts = told.parts ∙ ap (λ t. told.handed ++ t) next.parts ∙ sym (append_assoc told.handed next.handed rest);
    took = took_more g old between new told.handed next.handed told.took next.took;
  }

  -- what is pending was written in part
  pub writes-behind : (old between new : O) (text pending rest whole : List ℕ) (why : OutError) → Pends g old between text pending → whole ≡ text ++ rest → Writes g between new pending (Err why) → Writes g old new whole (Err why)
  writes-behind old between new text pending rest whole Failed told is failed =
      subst (FailedIn g old new) (sym (is ∙ ap (λ t. t ++ rest) told.parts)) (failed_first g old new (told.handed ++ pending) rest (failed_more g old between new told.handed pending told.took failed))
  writes-behind old between new text pending rest whole NoMemory told is some =
      subst (TookPart g old new) (sym (is ∙ ap (λ t. t ++ rest) told.parts)) (part-first old new (told.handed ++ pending) rest (part_more g old between new told.handed pending told.took some))

  -- so it is behind what was taken whole
  pub writes-next : (old between new : O) (front next rest whole : List ℕ) (why : OutError) → Took g old between front → whole ≡ front ++ next ++ rest → Writes g between new next (Err why) → Writes g old new whole (Err why)
  writes-next old between new front next rest whole Failed took is failed =
      subst (FailedIn g old new) (sym is) (failed_first g old new (front ++ next) rest (failed_more g old between new front next took failed))
  writes-next old between new front next rest whole NoMemory took is some =
      subst (TookPart g old new) (sym is) (part-first old new (front ++ next) rest (part_more g old between new front next took some))
