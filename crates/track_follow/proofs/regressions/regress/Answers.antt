use Rattle.std.proofs.{Common.{◌≡◌, ℕ, ◌+◌, ◌<◌, ◌≤◌, Bool, true, false, List, length, refl, sym, ap, subst, ◌∙◌, Some, arith}, lemmas.List.length-map}
use Rattle.metric_table.specs.Limits.{most}
use Rattle.metric_table.specs.declared.limits.Limit.TheVariants as limit
use Rattle.segment_cost.specs.declared.done.Done.{Done}
use Rattle.history_model.specs.declared.{entries.Entry.Entry, entries.Placed.Placed, events.Raised.Raised, events.RegressionEvent.TheVariants.Raise}
use Rattle.history_model.specs.declared.entries.Entry.TheVariants as entry
use Rattle.history_model.specs.{Allowed.Allowed, Entries.entries_of, Regressions.{is_number, regressions}, Runs.Series}
use Rattle.request_model.specs.declared.replies.Answer.TheVariants as answer
use Rattle.request_model.specs.declared.replies.Refusal.TheVariants as refusal
use Rattle.request_model.specs.declared.replies.Reply.{Reply}
use Rattle.track_model.specs.Following as following
use Rattle.track_model.specs.Outcomes.{Outcome, refuses}
use Rattle.track_replay.{specs.Made.publication_from, specs.State.IsLast, proofs.Followed.followed-length, proofs.Published.tells-none, proofs.Series.no-more}
use Rattle.track_follow.proofs.{Raising.{comes, change-is, none-such, free, full, added}, regressions.regress.Goals.{After-is_number, In_ok-raised}}
use Rattle.track_replay.proofs.{Steps.added-step, Told.tells-it}
use Rattle.track_follow.proofs.regressions.regress.Goals as goal

-- the publication whose change is raised, of which the tests tell
module _ (c : After-is_number) where
  abbrev h : List Entry
  h = entries_of c.args.track.now.history

  abbrev s : Series
  s = record { test = c.args.test.now; metric = c.args.metric.now }

  abbrev done : Done
  done = c.in-Ok.done.now

  last : IsLast h s done
  last = c.in-Ok.ensures.found

  number-is : (b : Bool) → c.is_number.result ≡ b → is_number (length done.cert.cuts) c.args.change ≡ b
  number-is b is = ap (λ (n : ℕ). is_number n c.args.change) (sym c.len-count.ensures) ∙ sym c.is_number.ensures ∙ is

module _ (c : In_ok-raised) where
  raised-is : c.in_ok-raised.raised ≡ following.change_of (entries_of c.args.track.now.history) (record { test = c.args.test.now; metric = c.args.metric.now }) (publication_from c.in-Ok.done.now) c.args.change
  raised-is =
      c.in_ok-raised.ensures
      ∙ change-is (entries_of c.args.track.now.history) (record { test = c.args.test.now; metric = c.args.metric.now }) c.in-Ok.done.now c.args.change c.in-Ok.ensures.found.made c.in-Ok.ensures.found.series

  room : length (entries_of c.args.track.now.history) < most limit.Steps
  room = omega (arith, c.len.ensures, length-map c.args.track.now.history (λ (p : Placed). p.entry), c.if-len-most.false, c.most.ensures)

pub returns-in-Err-clause-step : goal.returns-in-Err-clause-step
returns-in-Err-clause-step c =
    let h : List Entry = entries_of c.args.track.now.history in
    let s : Series = record { test = c.args.test.now; metric = c.args.metric.now } in
    tells-it (following.RegressComesTo h s c.args.change) c.args.track.now c.args.author (answer.Refused c.in-Err.why) c.told.result
    (tells-none (λ p raised. raised ≡ following.raise h s c.args.change p) h s c.in-Err.why c.in-Err.ensures.none) c.told.ensures

pub returns-then-not-is_number-clause-step : goal.returns-then-not-is_number-clause-step
returns-then-not-is_number-clause-step c =
    let at = (goal.at.returns-then-not-is_number-clause-step c).After-is_number in
    tells-it (following.RegressComesTo (h at) (s at) c.args.change) c.args.track.now c.args.author (answer.Refused (refusal.NoSuchChange c.len-count.result)) c.told-then-not-is_number.result
    (comes (h at) (s at) (done at) c.args.change (last at) (refuses (refusal.NoSuchChange c.len-count.result))
    (ap (λ (n : ℕ). refuses (refusal.NoSuchChange n)) c.len-count.ensures ∙ none-such (h at) (s at) (done at) c.args.change (number-is at false c.if-not-is_number.true)))
    c.told-then-not-is_number.ensures

pub returns-then-len-most-clause-step : goal.returns-then-len-most-clause-step
returns-then-len-most-clause-step c =
    let at = (goal.at.returns-then-len-most-clause-step c).After-is_number in
    let no_room : most limit.Steps ≤ length (h at) = omega (arith, c.len.ensures, length-map c.args.track.now.history (λ (p : Placed). p.entry), c.if-len-most.true, c.most.ensures) in
    tells-it (following.RegressComesTo (h at) (s at) c.args.change) c.args.track.now c.args.author (answer.Refused (refusal.Full limit.Steps)) c.told-then-len-most.result
    (comes (h at) (s at) (done at) c.args.change (last at) (refuses (refusal.Full limit.Steps))
    (full (h at) (s at) (done at) c.args.change c.steps_law.ensures.full (number-is at true c.if-not-is_number.false) no_room))
    c.told-then-len-most.ensures

pub overflow_add-regression : goal.overflow_add-regression
overflow_add-regression c = record { fits = omega (arith, c.len-regression.ensures.few) }

pub add-requires-clause-allowed : goal.add-requires-clause-allowed
add-requires-clause-allowed c =
    let at = (goal.at.add-requires-clause-allowed c).After-is_number in
    let made = (goal.at.add-requires-clause-allowed c).In_ok-raised in
    let free_is = free (h at) (s at) (done at) c.args.change (number-is at true c.if-not-is_number.false) in
    subst (λ (r : Raised). Allowed (h at) (entry.Regression (Raise r))) (sym (raised-is made))
    (c.follow_law.ensures.raises (h at) (s at) (publication_from (done at)) c.args.change c.history_law.ensures.legal c.history_law.ensures.limits (last at).known (last at).last free_is (room made))

pub add-requires-clause-more : goal.add-requires-clause-more
add-requires-clause-more c = no-more (entries_of c.args.track.now.history) (entry.Regression (Raise c.in_ok-raised.raised)) refl

pub returns-clause-step : goal.returns-clause-step
returns-clause-step c =
    let at = (goal.at.returns-clause-step c).After-is_number in
    let made = (goal.at.returns-clause-step c).In_ok-raised in
    let e : Entry = entry.Regression (Raise c.in_ok-raised.raised) in
    let told_is : c.len-regression.result + 1 ≡ length (regressions (h at)) + 1 =
    ap (λ (n : ℕ). n + 1) (c.len-regression.ensures.told ∙ ap length c.regressions.ensures ∙ followed-length (h at) 1 (regressions (h at))) in
    let o : Outcome = record { answer = answer.Raised (c.len-regression.result + 1); adds = Some e } in (
      o,
      comes (h at) (s at) (done at) c.args.change (last at) o
          (added (h at) (s at) (done at) c.args.change c.steps_law.ensures.added (number-is at true c.if-not-is_number.false) (room made) (c.len-regression.result + 1) told_is c.in_ok-raised.raised (raised-is made)),
      added-step c.args.track.now c.args.author o o.answer e c.add.new.self _ refl c.in_ok-step.ensures.track
          (ap (λ (n : ℕ). let r : Reply = record { step = n; answer = o.answer } in r) c.in_ok-step.ensures.step),
    )
