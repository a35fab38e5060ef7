-- Private: no public contract cites this. What a desk makes of a script, seen by a part of what stands behind it.
use Rattle.std.{proofs.Common.{◌≡◌, ℕ, inl, inr, Bool, List, [], ◌∷◌, Option, Ok, Err, ap, ◌∙◌}, specs.Prelude.Result}
use Rattle.track_outside.specs.declared.source.Source as source
use Rattle.track_outside.specs.declared.sink.Sink as sink
use Rattle.request_model.specs.declared.{requests.Request.Request, replies.Reply.Reply}
use Rattle.request_words.specs.Bodies.{Item}
use Rattle.script_loop.specs.{declared.stop.Stop.Stop, Endings.{HasRead, HasWritten, HasAnswered, Stands}, Folds.{AnswersItem, AreAnswers}}
use Rattle.script_loop.specs.declared.stop.Stop.TheVariants as stop
use Rattle.script_loop.specs.Paced.{IsLeft, Paced}

module _ {I O S : Type 0} (g : source.Ghosts I) (h : sink.Ghosts O) (first now : I) (old new : O) (does : S → Request → Option Reply → S → Type 0) (fails : S → S → Type 0) (each : Bool) (before left : S) where
  -- what no answer changes
  module _ {A : Type 0} (name : S → A) (kept : (s : S) (q : Request) (told : Option Reply) (t : S) → does s q told t → name t ≡ name s) (left-too : (s t : S) → fails s t → name t ≡ name s) where
    item-keeps : (s : S) (item : Item) (told : Option Reply) (t : S) → AnswersItem does s item told t → name t ≡ name s
    item-keeps s (Ok q) told t answered = kept s q told t answered
    item-keeps s (Err reason) told t answered = ap name answered.1

    answers-keep : (s : S) (items : List Item) (replies : List Reply) (t : S) → AreAnswers does s items replies t → name t ≡ name s
    answers-keep s [] replies t answers = ap name answers.1
    answers-keep s (item ∷ items) replies t answers = answers-keep answers.1 items answers.2 t answers.5 ∙ item-keeps s item answers.0 answers.1 answers.3

    left-keeps : (after : S) (result : Result (Unit {0}) Stop) → IsLeft fails after left result → name left ≡ name after
    left-keeps after (Ok done) is = ap name is
    left-keeps after (Err stop.ReadFault) is = ap name is
    left-keeps after (Err stop.WriteFault) is = ap name is
    left-keeps after (Err (stop.CutOff offset)) is = ap name is
    left-keeps after (Err stop.InputTooLong) is = ap name is
    left-keeps after (Err stop.NoMemory) (inl is) = ap name is
    left-keeps after (Err stop.NoMemory) (inr failed) = left-too after left failed

    pub script-keeps : (result : Result (Unit {0}) Stop) → Paced g h first now old new does fails each before left result → name left ≡ name before
    script-keeps result p = left-keeps p.after result p.stands ∙ answers-keep before p.items p.output.replies p.after p.output.answers

  -- seen so, its answers are these
  module _ {T : Type 0} (see : S → T) (plain : T → Request → Option Reply → T → Type 0) (seen : (s : S) (q : Request) (told : Option Reply) (t : S) → does s q told t → plain (see s) q told (see t)) where
    item-seen : (s : S) (item : Item) (told : Option Reply) (t : S) → AnswersItem does s item told t → AnswersItem plain (see s) item told (see t)
    item-seen s (Ok q) told t answered = seen s q told t answered
    item-seen s (Err reason) told t answered = (answered.0, ap see answered.1)

    answers-seen : (s : S) (items : List Item) (replies : List Reply) (t : S) → AreAnswers does s items replies t → AreAnswers plain (see s) items replies (see t)
    answers-seen s [] replies t answers = (answers.0, ap see answers.1)
    answers-seen s (item ∷ items) replies t answers =
        (answers.0, see answers.1, answers.2, item-seen s item answers.0 answers.1 answers.3, answers.4, answers-seen answers.1 items answers.2 t answers.5)

    stands-seen : (after : S) (result : Result (Unit {0}) Stop) → IsLeft fails after left result → Stands (see after) (see left) result
    stands-seen after (Ok done) is = ap see is
    stands-seen after (Err stop.ReadFault) is = ap see is
    stands-seen after (Err stop.WriteFault) is = ap see is
    stands-seen after (Err (stop.CutOff offset)) is = ap see is
    stands-seen after (Err stop.InputTooLong) is = ap see is
    stands-seen after (Err stop.NoMemory) is = tt

    pub script-seen : (result : Result (Unit {0}) Stop) → Paced g h first now old new does fails each before left result
        → (items : List Item) × (text : List ℕ) × HasRead g first now items result × HasAnswered plain (see before) (see left) items text result × HasWritten h old new text result
    script-seen result p = (
      p.items,
      p.text,
      p.read,
      record {
        after = see p.after;
        output = record { replies = p.output.replies; answers = answers-seen before p.items p.output.replies p.after p.output.answers; told = p.output.told };
        stands = stands-seen p.after result p.stands;
      },
      p.wrote,
    )
