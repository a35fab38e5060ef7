-- The output of items one after another, and what a sink took of it.
use Rattle.std.proofs.Common.{◌≡◌, ℕ, inl, Err, List, [], ◌∷◌, ◌++◌, Option, refl, sym, ap, subst, ◌∙◌, arith, append_assoc, append-nil}
use Rattle.std.{specs.Prelude.option_to_list, specs.List.flat_map, proofs.lemmas.Grind.flat_map-append}
use Rattle.track_outside.specs.{declared.sink.Sink.Ghosts, Calls.{Took, FailedIn, TookPart}}
use Rattle.track_outside.proofs.InParts.{took_none, took_more, failed_more, part_more}
use Rattle.request_model.specs.declared.{requests.Request.Request, replies.Reply.Reply}
use Rattle.reply_text.specs.Replies.{text_of}
use Rattle.request_words.specs.Bodies.{Item}
use Rattle.script_loop.specs.{Folds.{AnswersItem, AreAnswers}, Outputs.IsOutput, Stops.stop_of, Paced.IsLeft, Turns.{Gathers, WrittenBut}}
use Rattle.request_reader.specs.declared.stop.ReadStop.{ReadStop}
use Rattle.request_reader.specs.declared.stop.ReadStop.TheVariants as read

module _ {S : Type 0} (does : S → Request → Option Reply → S → Type 0) where
  pub answers_join : (before between after : S) (items more : List Item) (replies others : List Reply)
      → AreAnswers does before items replies between → AreAnswers does between more others after → AreAnswers does before (items ++ more) (replies ++ others) after
  answers_join before between after [] more replies others one two = rw (one.0, sym one.1) two
  answers_join before between after (item ∷ items) more replies others one two = (
    one.0,
    one.1,
    one.2 ++ others,
    one.3,
    ap (λ rs. rs ++ others) one.4 ∙ append_assoc (option_to_list one.0) one.2 others,
    answers_join one.1 between after items more one.2 others one.5 two,
  )

  pub answers_one : (before : S) (item : Item) (told : Option Reply) (after : S) → AnswersItem does before item told after → AreAnswers does before (item ∷ []) (option_to_list told) after
  answers_one before item told after answers = (told, after, [], answers, sym (append-nil (option_to_list told)), (refl, refl))

  pub output_none : (before : S) → IsOutput does before [] [] before
  output_none before = record { replies = []; answers = (refl, refl); told = refl }

  pub output_join : (before between after : S) (items more : List Item) (text others : List ℕ)
      → IsOutput does before items text between → IsOutput does between more others after → IsOutput does before (items ++ more) (text ++ others) after
  output_join before between after items more text others one two = record {
    replies = one.replies ++ two.replies;
    answers = answers_join before between after items more one.replies two.replies one.answers two.answers;
    told = ap (λ t. t ++ others) one.told ∙ ap (λ t. flat_map text_of one.replies ++ t) two.told ∙ sym (flat_map-append text_of one.replies two.replies);
  }

module _ {O : Type 0} (g : Ghosts O) where
  -- ---- what is gathered behind what a sink took
  pub gathers_none : (old : O) (pending : List ℕ) → pending ≡ [] → Gathers g old old [] pending
  gathers_none old pending none = record { handed = []; parts = sym none; took = took_none g old old refl (omega arith) }

  pub gathers_more : (old new : O) (text pending more now : List ℕ) → Gathers g old new text pending → now ≡ pending ++ more → Gathers g old new (text ++ more) now
  gathers_more old new text pending more now told is = record {
    handed = told.handed;
    parts = ap (λ t. t ++ more) told.parts ∙ append_assoc told.handed pending more ∙ ap (λ t. told.handed ++ t) (sym is);
    took = told.took;
  }

  module _ (old between new : O) (text pending : List ℕ) (told : Gathers g old between text pending) where
    pub gathers_on : (rest : List ℕ) → Gathers g between new pending rest → Gathers g old new text rest
    gathers_on rest next = record {
      handed = told.handed ++ next.handed;
      parts = told.parts ∙ ap (λ t. told.handed ++ t) next.parts ∙ sym (append_assoc told.handed next.handed rest);
      took = took_more g old between new told.handed next.handed told.took next.took;
    }

    pub took_all : Took g between new pending → Took g old new text
    took_all next = subst (Took g old new) (sym told.parts) (took_more g old between new told.handed pending told.took next)

    pub failed_on : FailedIn g between new pending → FailedIn g old new text
    failed_on failed = subst (FailedIn g old new) (sym told.parts) (failed_more g old between new told.handed pending told.took failed)

    pub part_of : TookPart g between new pending → TookPart g old new text
    part_of some = subst (TookPart g old new) (sym told.parts) (part_more g old between new told.handed pending told.took some)

  -- reading stopped, and all that was read is answered
  pub stands_read : {S : Type 0} (fails : S → S → Type 0) (why : ReadStop) (now : S) → IsLeft fails now now (Err (stop_of why))
  stands_read fails read.ReadFault now = refl
  stands_read fails (read.CutOff offset) now = refl
  stands_read fails read.InputTooLong now = refl
  stands_read fails read.NoMemory now = inl refl

  pub written_read : (why : ReadStop) (old new : O) (text pending : List ℕ) → Gathers g old new text pending → WrittenBut g old new text pending (Err (stop_of why))
  written_read read.ReadFault old new text pending told = told
  written_read (read.CutOff offset) old new text pending told = told
  written_read read.InputTooLong old new text pending told = told
  written_read read.NoMemory old new text pending told = (text, [], sym (append-nil text), told)
