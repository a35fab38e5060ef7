-- How many steps the answers of sessions take.
use Rattle.std.proofs.Common.{◌≡◌, ℕ, ◌+◌, Bool, true, false, List, [], ◌∷◌, ◌++◌, Option, Some, None, Ok, Err, refl, sym, ap, subst, ◌∙◌, arith}
use Rattle.std.specs.Prelude.{if◌then◌else◌, option_to_list}
use Rattle.request_model.specs.declared.{requests.Request.Request, replies.Reply.Reply}
use Rattle.request_model.specs.declared.requests.Request.TheVariants as request
use Rattle.request_words.specs.Bodies.{Item}
use Rattle.track_model.specs.{Counts.{Counts, is_full, redone_in}, Outcomes.refuses, Replies.apart}
use Rattle.script_desk.specs.{Counting.{Counted, Counting, CountsTold}, Sessions.{State, AnswersFor, AnswersSome, is_of_segmentations}}
use Rattle.script_loop.specs.Folds.{AnswersItem}
use Rattle.script_session.specs.{Part.{is_of_part, part}, Counts.{asks_segment, RoseByRedone, SessionsCount, TrialsCount}}

-- what one item adds to the sum, and when it is known
abbrev redone_of : Item → Reply → ℕ
redone_of item reply = if asks_segment item then redone_in reply.answer else 0

abbrev IsKnown : Item → Reply → Type 0
IsKnown item reply = asks_segment item ≡ true → is_full reply.answer ≡ false

counts-rise : (q : Request) (reply : Reply) (b m : ℕ) → Counts q reply.answer b m → IsKnown (Ok q) reply → m ≡ b + redone_of (Ok q) reply
counts-rise (request.Segment machine test metric) reply b m counts known = counts (known refl)
counts-rise q reply b m counts known = omega (arith, counts)

some-rise : (q : Request) (reply : Reply) (told : Option Reply) (b m : ℕ) → told ≡ (if is_of_segmentations q then Some reply else None) → CountsTold q told b m → IsKnown (Ok q) reply
    → m ≡ b + redone_of (Ok q) reply
some-rise (request.Segment machine test metric) reply told b m is counts known =
    let here : Counts (request.Segment machine test metric) reply.answer b m = subst (λ t. CountsTold (request.Segment machine test metric) t b m) is counts in here (known refl)
some-rise (request.Changes machine test metric) reply told b m is counts known =
    let same : m ≡ b = subst (λ t. CountsTold (request.Changes machine test metric) t b m) is counts in omega (arith, same)
some-rise q reply told b m is counts known =
    let same : m ≡ b = subst (λ t. CountsTold q t b m) is counts in omega (arith, same)

-- the reply to an item, and how many steps it took
record ItemFor (before : Counted State) (item : Item) (told : Option Reply) (after : Counted State) : Type 0 where
  reply : Reply
  is : told ≡ Some reply
  plain : AnswersItem AnswersFor before.state item told after.state
  rose : IsKnown item reply → after.steps ≡ before.steps + redone_of item reply

item_for : (before : Counted State) (item : Item) (told : Option Reply) (after : Counted State) → AnswersItem (Counting AnswersFor) before item told after → ItemFor before item told after
item_for before (Ok q) told after answered = record {
  reply = answered.0.0;
  is = answered.0.2;
  plain = answered.0;
  rose = counts-rise q answered.0.0 before.steps after.steps (subst (λ t. CountsTold q t before.steps after.steps) answered.0.2 answered.1);
}
item_for before (Err reason) told after answered = record {
  reply = apart (refuses reason);
  is = answered.0;
  plain = (answered.0, ap (λ (c : Counted State). c.state) answered.1);
  rose = λ known. let same : after.steps ≡ before.steps = ap (λ (c : Counted State). c.steps) answered.1 in omega (arith, same);
}

record ItemSome (before : Counted State) (item : Item) (told : Option Reply) (after : Counted State) : Type 0 where
  reply : Reply
  all : AnswersItem AnswersFor before.state item (Some reply) after.state
  is : told ≡ (if is_of_part item then Some reply else None)
  plain : AnswersItem AnswersSome before.state item told after.state
  rose : IsKnown item reply → after.steps ≡ before.steps + redone_of item reply

item_some : (before : Counted State) (item : Item) (told : Option Reply) (after : Counted State) → AnswersItem (Counting AnswersSome) before item told after → ItemSome before item told after
item_some before (Ok q) told after answered = record {
  reply = answered.0.0;
  all = (answered.0.0, answered.0.1, refl);
  is = answered.0.2;
  plain = answered.0;
  rose = some-rise q answered.0.0 told before.steps after.steps answered.0.2 answered.1;
}
item_some before (Err reason) told after answered =
    let same : after.state ≡ before.state = ap (λ (c : Counted State). c.state) answered.1 in record {
      reply = apart (refuses reason);
      all = (refl, same);
      is = answered.0;
      plain = (answered.0, same);
      rose = λ known. let still : after.steps ≡ before.steps = ap (λ (c : Counted State). c.steps) answered.1 in omega (arith, still);
    }

one_told : {told : Option Reply} {reply : Reply} {replies more : List Reply} → replies ≡ option_to_list told ++ more → told ≡ Some reply → replies ≡ reply ∷ more
one_told {more = more} is told = is ∙ ap (λ t. option_to_list t ++ more) told

chosen : (tells : Bool) (reply : Reply) (rest : List Reply) → option_to_list (if tells then Some reply else None) ++ rest ≡ (if tells then reply ∷ rest else rest)
chosen true reply rest = refl
chosen false reply rest = refl

-- the first item's steps, and those behind it
both_rose : (item : Item) (items : List Item) (reply : Reply) (more : List Reply) (before between after : ℕ)
    → (IsKnown item reply → between ≡ before + redone_of item reply) → RoseByRedone items more between after → RoseByRedone (item ∷ items) (reply ∷ more) before after
both_rose item items reply more before between after one rest known =
    let first = one known.0 in
    let later = rest known.1 in
    omega (arith, first, later)

pub sessions_count : SessionsCount
sessions_count before after [] replies answers = (
  (answers.0, ap (λ (c : Counted State). c.state) answers.1),
  λ known. let same : after.steps ≡ before.steps = ap (λ (c : Counted State). c.steps) answers.1 in omega (arith, same),
)
sessions_count before after (item ∷ items) replies answers =
    let here = item_for before item answers.0 answers.1 answers.3 in
    let is : replies ≡ here.reply ∷ answers.2 = one_told answers.4 here.is in
    let later = sessions_count answers.1 after items answers.2 answers.5 in (
      (answers.0, answers.1.state, answers.2, here.plain, answers.4, later.0),
      subst (λ rs. RoseByRedone (item ∷ items) rs before.steps after.steps) (sym is)
          (both_rose item items here.reply answers.2 before.steps answers.1.steps after.steps here.rose later.1),
    )

pub trials_count : TrialsCount
trials_count before after [] told answers =
    let same : after.state ≡ before.state = ap (λ (c : Counted State). c.state) answers.1 in (
      (answers.0, same),
      ([], (refl, same), answers.0, λ known. let still : after.steps ≡ before.steps = ap (λ (c : Counted State). c.steps) answers.1 in omega (arith, still)),
    )
trials_count before after (item ∷ items) told answers =
    let here = item_some before item answers.0 answers.1 answers.3 in
    let later = trials_count answers.1 after items answers.2 answers.5 in
    let replies : List Reply = later.1.0 in (
      (answers.0, answers.1.state, answers.2, here.plain, answers.4, later.0),
      (
        here.reply ∷ replies,
        (Some here.reply, answers.1.state, replies, here.all, refl, later.1.1),
        answers.4 ∙ ap (λ t. option_to_list t ++ answers.2) here.is ∙ ap (λ rs. option_to_list (if is_of_part item then Some here.reply else None) ++ rs) later.1.2
            ∙ chosen (is_of_part item) here.reply (part items replies),
        both_rose item items here.reply replies before.steps answers.1.steps after.steps here.rose later.1.3,
      ),
    )
