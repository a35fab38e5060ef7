-- What a session that tells the replies about segmentations alone tells is the part of the replies.
use Rattle.std.proofs.Common.{◌≡◌, Bool, true, false, List, [], ◌∷◌, ◌++◌, length, Option, Some, None, Ok, Err, refl, sym, ap, subst, ◌∙◌, arith}
use Rattle.std.specs.{Prelude.{if◌then◌else◌, option_to_list}, List.flat_map}
use Rattle.request_model.specs.declared.replies.Reply.{Reply}
use Rattle.reply_text.specs.Replies.{text_of}
use Rattle.request_words.specs.Bodies.{Item}
use Rattle.script_desk.specs.Sessions.{State, AnswersFor, AnswersSome}
use Rattle.script_loop.specs.Folds.{AnswersItem}
use Rattle.script_session.specs.Part.{is_of_part, part, IsPart, OneReplyEach, TellsPart, TellsNoMore, OutputsAreParts, PartsAreOfOutputs, PartOfEach}
use Rattle.script_session.specs.Laws.{ScriptsOnce}

-- the reply to an item, and what each session tells of it
record ItemReply (before : State) (item : Item) (told : Option Reply) (after : State) : Type 0 where
  reply : Reply
  is : told ≡ Some reply
  some : AnswersItem AnswersSome before item (if is_of_part item then Some reply else None) after

item_reply : (before : State) (item : Item) (told : Option Reply) (after : State) → AnswersItem AnswersFor before item told after → ItemReply before item told after
item_reply before (Ok q) told after answered = record { reply = answered.0; is = answered.2; some = (answered.0, answered.1, refl) }
item_reply before (Err reason) told after answered = record { reply = _; is = answered.0; some = (refl, answered.1) }

record ItemAll (before : State) (item : Item) (told : Option Reply) (after : State) : Type 0 where
  reply : Reply
  all : AnswersItem AnswersFor before item (Some reply) after
  is : told ≡ (if is_of_part item then Some reply else None)

item_all : (before : State) (item : Item) (told : Option Reply) (after : State) → AnswersItem AnswersSome before item told after → ItemAll before item told after
item_all before (Ok q) told after answered = record { reply = answered.0; all = (answered.0, answered.1, refl); is = answered.2 }
item_all before (Err reason) told after answered = record { reply = _; all = (refl, answered.1); is = answered.0 }

chosen : (tells : Bool) (reply : Reply) (rest : List Reply) → (if tells then reply ∷ rest else rest) ≡ option_to_list (if tells then Some reply else None) ++ rest
chosen true reply rest = refl
chosen false reply rest = refl

one_told : {told : Option Reply} {reply : Reply} {replies more : List Reply} → replies ≡ option_to_list told ++ more → told ≡ Some reply → replies ≡ reply ∷ more
one_told {more = more} is told = is ∙ ap (λ t. option_to_list t ++ more) told

pub one_reply_each : OneReplyEach
one_reply_each before after [] replies answers = ap length answers.0
one_reply_each before after (item ∷ items) replies answers =
    let here = item_reply before item answers.0 answers.1 answers.3 in
    let is : replies ≡ here.reply ∷ answers.2 = one_told answers.4 here.is in
    let later = one_reply_each answers.1 after items answers.2 answers.5 in
    omega (arith, ap length is, later)

pub tells_part : TellsPart
tells_part before after [] replies answers = (refl, answers.1)
tells_part before after (item ∷ items) replies answers =
    let here = item_reply before item answers.0 answers.1 answers.3 in
    let is : replies ≡ here.reply ∷ answers.2 = one_told answers.4 here.is in (
      (if is_of_part item then Some here.reply else None),
      answers.1,
      part items answers.2,
      here.some,
      ap (part (item ∷ items)) is ∙ chosen (is_of_part item) here.reply (part items answers.2),
      tells_part answers.1 after items answers.2 answers.5,
    )

pub tells_no_more : TellsNoMore
tells_no_more before after [] told answers = ([], (refl, answers.1), answers.0)
tells_no_more before after (item ∷ items) told answers =
    let here = item_all before item answers.0 answers.1 answers.3 in
    let later = tells_no_more answers.1 after items answers.2 answers.5 in (
      here.reply ∷ later.0,
      (Some here.reply, answers.1, later.0, here.all, refl, later.1),
      answers.4 ∙ ap (λ t. option_to_list t ++ answers.2) here.is ∙ ap (λ rs. option_to_list (if is_of_part item then Some here.reply else None) ++ rs) later.2
          ∙ sym (chosen (is_of_part item) here.reply (part items later.0)),
    )

pub outputs_are_parts : OutputsAreParts
outputs_are_parts before after bytes text ending = (
  λ out.
      let found = tells_no_more before after out.items out.output.replies out.output.answers in (
        flat_map text_of found.0,
        record {
          items = out.items;
          replies = found.0;
          script = out.script;
          answers = found.1;
          all = refl;
          told = out.output.told ∙ ap (flat_map text_of) found.2;
        },
      ),
  λ parted.
      let is = parted.1 in
      record {
        items = is.items;
        script = is.script;
        output = record { replies = part is.items is.replies; answers = tells_part before after is.items is.replies is.answers; told = is.told };
      },
)

pub parts_are_of_outputs : PartsAreOfOutputs
parts_are_of_outputs before after bytes whole text ending is =
    record { items = is.items; script = is.script; output = record { replies = is.replies; answers = is.answers; told = is.all } }

pub part_of_each : ScriptsOnce AnswersFor → PartOfEach
part_of_each once before after last bytes whole text ending ended out some =
    let found = (outputs_are_parts before after bytes text ended).0 some in
    let same = once before bytes whole found.0 last after ending ended out (parts_are_of_outputs before after bytes found.0 text ended found.1) in
    let told : IsPart before bytes whole text after ended = subst (λ w. IsPart before bytes w text after ended) (sym same.0) found.1 in
    let left : IsPart before bytes whole text last ended = subst (λ s. IsPart before bytes whole text s ended) (sym same.1) told in
    (subst (λ e. IsPart before bytes whole text last e) (sym same.2) left, sym same.1, sym same.2)
