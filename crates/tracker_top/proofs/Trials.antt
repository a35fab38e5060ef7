-- How the answering of a script that is whole in memory ends.
use Rattle.std.proofs.Common.{◌≡◌, ◌≢◌, ℕ, List, [], Some, Result, Ok, Err, IfSome, subst, sym, ap, ◌∙◌, arith, inl, refl}
use Rattle.std.{specs.List.{AllByRecursion, flat_map}, proofs.lemmas.List.Elements.All-nil}
use Rattle.track_outside.specs.declared.source.Source as source
use Rattle.track_outside.specs.declared.sink.Sink as sink
use Rattle.track_outside.proofs.InParts.{append_known-nil}
use Rattle.reply_text.specs.Replies.{text_of}
use Rattle.request_model.specs.declared.replies.Reply.{Reply}
use Rattle.request_words.specs.Bodies.{Item}
use Rattle.script_loop.specs.{declared.stop.Stop.Stop, Folds.AreAnswers, Outputs.Out, Endings.{HasRead, HasAnswered, HasWritten}}
use Rattle.script_loop.specs.declared.stop.Stop.TheVariants as stop
use Rattle.trial_script.specs.{Counting.{Counted, Counting, counted}, Sessions.{State, AnswersFor, AnswersSome}, Counts.TrialsCount, Part.OneReplyEach}
use Rattle.request_reader.specs.Scripts.{end, cut_off, unfinished}
use Rattle.tracker_top.specs.{declared.status.Status.TheVariants.{Done, NoMemory}, Answers.{new_state, PublishesWell, AllPublishWell}}
use Rattle.tracker_top.{specs.Statuses.{script_status, script_status_of}, proofs.Counted.{none-full, without-count}}
use Rattle.trial_script.specs.Accepted.{IsAccepted}
use Rattle.tracker_top.specs.Endings.{EndsWell, RefusesNone, HasAsked, IsOfOutput, RunsScript}

not_done : (why : Stop) → script_status_of why ≢ Done
not_done stop.ReadFault is = cc
not_done stop.WriteFault is = cc
not_done (stop.CutOff offset) is = cc
not_done stop.InputTooLong is = cc
not_done stop.NoMemory is = cc

module _ {I O : Type 0} (g : source.Ghosts I) (h : sink.Ghosts O) (old new : I) (before after : O) (bytes : List ℕ) (tells : g.left old ≡ Some bytes) (sure : g.faults new ≡ 0) (well : EndsWell bytes) (refuses : RefusesNone bytes) (each : OneReplyEach) (count : TrialsCount) where
  known : (P : List ℕ → Type 0) → IfSome (g.left old) P → P bytes
  known P told = subst (λ left. IfSome left P) tells told

  has_asked : (items : List Item) (result : Result (Unit {0}) Stop) → HasRead g old new items result → HasAsked bytes items result
  has_asked items (Ok done) read = known _ read.0
  has_asked items (Err stop.ReadFault) read = absurd (omega (arith, read.0, sure))
  has_asked items (Err (stop.CutOff offset)) read = let no : cut_off offset ≡ end = well items (cut_off offset) (known _ read) in cc
  has_asked items (Err stop.InputTooLong) read = let no : unfinished ≡ end = well items unfinished (known _ read) in cc
  has_asked items (Err stop.WriteFault) read = known _ read
  has_asked items (Err stop.NoMemory) read = known _ read

  of_output : (items : List Item) (result : Result (Unit {0}) Stop) → HasAsked bytes items result → IsOfOutput (script_status result)
  of_output items (Ok done) read = tt
  of_output items (Err stop.ReadFault) read = absurd read
  of_output items (Err (stop.CutOff offset)) read = absurd read
  of_output items (Err stop.InputTooLong) read = absurd read
  of_output items (Err stop.WriteFault) read = tt
  of_output items (Err stop.NoMemory) read = tt

  module _ (now : State) (from to : ℕ) (published : AllPublishWell now) (items : List Item) (text : List ℕ) where
    pub runs : (result : Result (Unit {0}) Stop) → HasRead g old new items result → HasAnswered (Counting AnswersSome) (counted new_state from) (counted now to) items text result
        → HasWritten h before after text result → RunsScript h bytes before after from to (script_status result)
    runs (Ok done) read answered wrote =
        let asked : HasAsked bytes items (Ok done) = has_asked items (Ok done) read in
        let all = count (counted new_state from) answered.after items answered.output.replies answered.output.answers in
        let plain : HasAnswered AnswersSome new_state now items text (Ok done) = without-count new_state now from to items text (Ok done) AnswersSome answered all.0 in
        let replies : List Reply = all.1.0 in
        let answers : AreAnswers AnswersFor new_state items replies now = subst (AreAnswers AnswersFor new_state items replies) (sym plain.stands) all.1.1 in
        let out : Out AnswersFor new_state bytes (flat_map text_of replies) now end =
        record { items = items; script = asked; output = record { replies = replies; answers = answers; told = refl } } in
        let accepted : AllByRecursion IsAccepted replies = refuses (flat_map text_of replies) now end out in
        let same : to ≡ answered.after.steps = ap (λ (c : Counted State). c.steps) answered.stands in
        record {
          result = Ok done;
          told = refl;
          items = items;
          text = text;
          now = now;
          read = asked;
          cause = tt;
          answered = plain;
          wrote = wrote;
          published = published;
          whole = λ done. record {
            whole = flat_map text_of replies;
            text = text;
            last = now;
            part = record { items = items; replies = replies; script = asked; answers = answers; all = refl; told = answered.output.told ∙ ap (flat_map text_of) all.1.2 };
            accepted = accepted;
            took = wrote;
            counted = same ∙ all.1.3 (none-full items replies (each new_state now items replies answers) accepted);
          };
        }
    runs (Err why) read answered wrote = record {
      result = Err why;
      told = refl;
      items = items;
      text = text;
      now = now;
      read = has_asked items (Err why) read;
      cause = of_output items (Err why) (has_asked items (Err why) read);
      answered = without-count new_state now from to items text (Err why) AnswersSome answered (count (counted new_state from) answered.after items answered.output.replies answered.output.answers).0;
      wrote = wrote;
      published = published;
      whole = λ is. absurd (not_done why is);
    }

-- nothing was read, for want of memory
pub runs_none : {O : Type 0} (h : sink.Ghosts O) (before : O) (bytes : List ℕ) (from : ℕ) → RunsScript h bytes before before from from NoMemory
runs_none h before bytes from = record {
  result = Err stop.NoMemory;
  told = refl;
  items = [];
  text = [];
  now = new_state;
  read = inl ([], bytes, refl, omega arith, ([], (refl, refl)));
  cause = tt;
  answered = record { after = new_state; output = record { replies = []; answers = (refl, refl); told = refl }; stands = tt };
  wrote = record { part = (0, omega arith, append_known-nil (h.taken before)); counts = omega arith };
  published = All-nil PublishesWell;
  whole = λ is. cc;
}
