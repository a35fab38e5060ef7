-- What is told of a run whose name was accepted before.
use Rattle.std.{proofs.Common.{List, ◌≡◌, ◌+◌, Bool, true, false, cond, length, refl, ap, ◌∙◌, Option, Some, None, nat_lt}, specs.Prelude.option_map}
use Rattle.metric_table.specs.Limits.{most}
use Rattle.metric_table.specs.declared.limits.Limit.TheVariants as limit
use Rattle.history_model.specs.declared.{entries.Acceptance.Acceptance, entries.Entry.Entry, run.Run.Run}
use Rattle.request_model.specs.declared.replies.Answer.TheVariants as answer
use Rattle.request_model.specs.declared.replies.Refusal.TheVariants as refusal
use Rattle.track_model.specs.Forms as forms
use Rattle.history_model.specs.Runs.{accepted, retractions, same_run}
use Rattle.sample_store.specs.Judged as judge
use Rattle.sample_store.specs.Runs.{samples_in}
use Rattle.sample_store.specs.declared.answers.Accepted.TheVariants as taken
use Rattle.track_follow.{specs.Indexes.{stored, stored_runs}, proofs.Marks.look-up}
use Rattle.track_step.specs.Told.{told_of}

pub told-by-judge : (h : List Entry) (new : Run) → told_of (judge.judged (stored_runs h) new) ≡ option_map (forms.told_again new) (accepted new.run h)
told-by-judge h new = ap (λ o. told_of (judge.judged_by (stored_runs h) new o)) (look-up h new.run) ∙ each (accepted new.run h)
  where
    within : (full more : Bool) → told_of (cond full (taken.Full limit.Runs) (cond more (taken.Full limit.Samples) taken.New)) ≡ None
    within true more = refl
    within false true = refl
    within false false = refl

    each : (o : Option Acceptance) → told_of (judge.judged_by (stored_runs h) new (option_map (stored (retractions h)) o)) ≡ option_map (forms.told_again new) o
    each None = within (nat_lt (most limit.Runs) (length (stored_runs h) + 1)) (nat_lt (most limit.Samples) (samples_in (stored_runs h) + length new.samples))
    each (Some a) = elim (same_run new a.run) as (λ b. told_of (cond b (taken.Duplicate a.step) (taken.Clash a.step)) ≡ Some (cond b (answer.Duplicate a.step) (answer.Refused (refusal.IdentityClash a.step)))) [ true ↦ refl | false ↦ refl ]
