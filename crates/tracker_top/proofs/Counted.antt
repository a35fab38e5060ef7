-- What is answered by steps that are counted, without the count, and the count.
use Rattle.std.proofs.Common.{◌≡◌, ◌≢◌, ℕ, ◌+◌, ◌^◌, ◌≤◌, false, List, [], ◌∷◌, Option, length, Result, Ok, Err, OnOk, refl, sym, ap, subst, arith}
use Rattle.std.specs.List.{AllByRecursion}
use Rattle.request_model.specs.declared.{requests.Request.Request, replies.Answer.Answer, replies.Refusal.Refusal, replies.Reply.Reply}
use Rattle.request_model.specs.declared.replies.Answer.TheVariants as answer
use Rattle.request_words.specs.Bodies.{Item}
use Rattle.track_model.specs.Counts.{is_full}
use Rattle.trial_script.specs.{Counting.{Counted, Counting, counted}, Sessions.{State, AnswersFor}, Counts.{NoneIsFull, RoseByRedone, SessionsCount}}
use Rattle.script_loop.specs.{declared.stop.Stop.Stop, Folds.AreAnswers, Endings.{HasAnswered, HasRead, HasWritten, Stands}}
use Rattle.script_loop.specs.declared.stop.Stop.TheVariants as stop
use Rattle.track_outside.specs.Calls.{GaveAtMost}
use Rattle.track_outside.specs.declared.sink.Sink as sink
use Rattle.track_outside.specs.declared.source.Source as source
use Rattle.trial_script.specs.Accepted.{IsAccepted}
use Rattle.tracker_top.specs.{Answers.{AllBisectWell, AllPublishWell}, Endings.AnswersScript}

-- where all stands as after the answers, so does what is seen of it
pub stands-seen : {S T : Type 0} (see : S → T) (after now : S) (result : Result (Unit {0}) Stop) → Stands after now result → Stands (see after) (see now) result
stands-seen see after now (Ok done) is = ap see is
stands-seen see after now (Err stop.ReadFault) is = ap see is
stands-seen see after now (Err stop.WriteFault) is = ap see is
stands-seen see after now (Err (stop.CutOff offset)) is = ap see is
stands-seen see after now (Err stop.InputTooLong) is = ap see is
stands-seen see after now (Err stop.NoMemory) is = tt

abbrev pub state_in : Counted State → State
state_in c = c.state

module _ (begun now : State) (from to : ℕ) (items : List Item) (text : List ℕ) (result : Result (Unit {0}) Stop) where
  abbrev pub HasCounted : (State → Request → Option Reply → State → Type 0) → Type 0
  HasCounted does = HasAnswered (Counting does) (counted begun from) (counted now to) items text result

  abbrev pub without-count : (does : State → Request → Option Reply → State → Type 0) (h : HasCounted does) → AreAnswers does begun items h.output.replies h.after.state → HasAnswered does begun now items text result
  without-count does h answers = record {
    after = h.after.state;
    output = record { replies = h.output.replies; answers = answers; told = h.output.told };
    stands = stands-seen state_in h.after (counted now to) result h.stands;
  }

-- where all stands, the count is that after the answers
rose-so : (begun now : State) (from to : ℕ) (items : List Item) (text : List ℕ) (result : Result (Unit {0}) Stop) (replies : List Reply) (h : HasAnswered (Counting AnswersFor) (counted begun from) (counted now to) items text result)
    → RoseByRedone items replies from h.after.steps → OnOk result (RoseByRedone items replies from to)
rose-so begun now from to items text (Ok done) replies h rose =
    let same : to ≡ h.after.steps = ap (λ (c : Counted State). c.steps) h.stands in
    subst (λ (n : ℕ). RoseByRedone items replies from n) (sym same) rose
rose-so begun now from to items text (Err why) replies h rose = tt

-- a script was answered by steps that are counted
pub answers-script : {I O : Type 0} (g : source.Ghosts I) (h : sink.Ghosts O) → SessionsCount → (begun now : State) (old new : I) (before after : O) (from to : ℕ) (result : Result (Unit {0}) Stop)
    → ((items : List Item) × (text : List ℕ) × HasRead g old new items result × HasAnswered (Counting AnswersFor) (counted begun from) (counted now to) items text result × HasWritten h before after text result)
    → AllPublishWell now → AllBisectWell now → GaveAtMost (2 ^ 30 + 1) (g.left old) (g.left new) → g.faults old ≤ g.faults new
    → AnswersScript g h begun now old new before after from to result
answers-script g h count begun now old new before after from to result (items, text, read, answered, wrote) published bisected few counts =
    let plain = count (counted begun from) answered.after items answered.output.replies answered.output.answers in
    record {
      items = items;
      text = text;
      read = read;
      answered = without-count begun now from to items text result AnswersFor answered plain.0;
      wrote = wrote;
      counted = rose-so begun now from to items text result answered.output.replies answered plain.1;
      published = published;
      bisected = bisected;
      few = few;
      counts = counts;
    }

-- ---- no reply that is accepted refuses a limit
not-full : (reply : Reply) → IsAccepted reply → is_full reply.answer ≡ false
not-full reply accepted = by reply.answer accepted
  where
    by : (a : Answer) → ((reason : Refusal) → a ≢ answer.Refused reason) → is_full a ≡ false
    by (answer.Refused reason) never = absurd (never reason refl)
    by a never = refl

pub none-full : (items : List Item) (replies : List Reply) → length replies ≡ length items → AllByRecursion IsAccepted replies → NoneIsFull items replies
none-full [] [] same all = tt
none-full [] (reply ∷ replies) same all = absurd (omega (arith, same))
none-full (item ∷ items) [] same all = absurd (omega (arith, same))
none-full (item ∷ items) (reply ∷ replies) same all = (λ asks. not-full reply all.0, none-full items replies (omega (arith, same)) all.1)
