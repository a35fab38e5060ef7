-- Each request on the kept history.
use Rattle.std.{proofs.Common.{◌≡◌, ℕ, List, refl, sym, ap, ◌∙◌}, specs.Prelude.unwrap_or}
use Rattle.history_model.specs.{declared.setting.Setting.Setting, Penalties.length_of, declared.entries.Entry.Entry}
use Rattle.segment_model.specs.Values.{ValuesOfPoints}
use Rattle.request_model.specs.declared.requests.Request.{Request}
use Rattle.request_model.specs.declared.requests.Request.TheVariants as request
use Rattle.request_model.specs.declared.replies.Answer.TheVariants as answer
use Rattle.track_model.specs.Following as following
use Rattle.track_model.specs.Forms as forms
use Rattle.track_model.specs.{Laws.OneOutcome, Outcomes.{Outcome, tells}, Replies.reply_of, Tracks.ComesTo}
use Rattle.keep_rows.specs.Kept.{kept_entries}
use Rattle.kept_replies.specs.Replies.{kept_outcome, behind, HasRoom, IsOfKept, AnswersAlike, RepliesAlike, HistoriesAlike}
use Rattle.kept_replies.proofs.Commits.{commit_so, commit_kept}
use Rattle.kept_replies.proofs.Following.{state_so, state_kept, bisect_so, bisect_kept, answer_so, answer_kept, resume_so, resume_kept, told_job_so}
use Rattle.kept_replies.proofs.{Outcomes.{IsKept, reply_so, behind_so}, Publishing.{along, calibrate_so, setting_so}}
use Rattle.kept_replies.proofs.Runs.{submit_so, submit_kept, retract_so, retract_kept, tune_so, tune_kept, runs_so}

-- a request comes to the same, and what it adds is kept
Alike : List Entry → ℕ → Request → Outcome → Type 0
Alike h kept_base q o = ComesTo (kept_entries h) kept_base q (kept_outcome h o) × IsKept o

module _ (by_values : ValuesOfPoints) where
  alike : (h : List Entry) (base kept_base : ℕ) (q : Request) (o : Outcome) → IsOfKept q → ComesTo h base q o → HasRoom o → Alike h kept_base q o
  unfolding Alike
  alike h base kept_base (request.Machine machine) o is comes room =
      along (Alike h kept_base (request.Machine machine)) o (tells (answer.Machine machine)) comes (λ free. (refl, tt)) room
  alike h base kept_base (request.Commit machine number name) o is comes room =
      along (Alike h kept_base (request.Commit machine number name)) o (forms.commit h number name) comes
      (λ free. (commit_so h number name free, commit_kept h number name)) room
  alike h base kept_base (request.Submit machine commit run samples ignored stated) o is comes room =
      along (Alike h kept_base (request.Submit machine commit run samples ignored stated)) o (forms.submit h machine commit run samples ignored stated) comes
      (λ free. (submit_so h machine commit run samples ignored stated free, submit_kept h machine commit run samples ignored stated)) room
  alike h base kept_base (request.Retract machine run) o is comes room =
      along (Alike h kept_base (request.Retract machine run)) o (forms.retract h run) comes (λ free. (retract_so h run free, retract_kept h run)) room
  alike h base kept_base (request.Tune machine metric penalty given) o is comes room =
      let len : ℕ = unwrap_or given (length_of metric h) in
      let long : forms.tune (kept_entries h) metric penalty len ≡ forms.tune_to (kept_entries h) metric penalty given =
      ap (λ (x : Setting). forms.tune (kept_entries h) metric penalty (unwrap_or given x.length)) (sym (setting_so metric h)) in
      along (Alike h kept_base (request.Tune machine metric penalty given)) o (forms.tune h metric penalty len) comes
      (λ free. (tune_so h metric penalty len free ∙ long, tune_kept h metric penalty len)) room
  alike h base kept_base (request.Calibrate machine test metric factor) o is comes room =
      calibrate_so by_values h (record { test = test; metric = metric }) factor o comes room
  alike h base kept_base (request.SetState machine number state) o is comes room =
      along (Alike h kept_base (request.SetState machine number state)) o (following.set_state h number state) comes
      (λ free. (state_so h number state free, state_kept h number state)) room
  alike h base kept_base (request.Bisect machine lo hi) o is comes room =
      along (Alike h kept_base (request.Bisect machine lo hi)) o (following.bisect h lo hi) comes (λ free. (bisect_so h lo hi free, bisect_kept h lo hi)) room
  alike h base kept_base (request.Answer machine number commit status) o is comes room =
      along (Alike h kept_base (request.Answer machine number commit status)) o (following.answer_job h number commit status) comes
      (λ free. (answer_so h number commit status free, answer_kept h number commit status)) room
  alike h base kept_base (request.Resume machine number) o is comes room =
      along (Alike h kept_base (request.Resume machine number)) o (following.resume h number) comes (λ free. (resume_so h number free, resume_kept h number)) room
  alike h base kept_base (request.Job machine number) o is comes room =
      along (Alike h kept_base (request.Job machine number)) o (following.job h number) comes (λ free. (told_job_so h number, tt)) room
  alike h base kept_base (request.Runs machine) o is comes room = along (Alike h kept_base (request.Runs machine)) o (forms.runs h) comes (λ free. (runs_so h, tt)) room
  alike h base kept_base q o is comes room = absurd is

  pub answers_alike : AnswersAlike
  unfolding Alike
  answers_alike h base kept_base q o is comes room = (alike h base kept_base q o is comes room).0

  module _ (unique : OneOutcome) where
    same_outcome : (h : List Entry) (base kept_base : ℕ) (q : Request) (o kept : Outcome) → IsOfKept q → ComesTo h base q o → ComesTo (kept_entries h) kept_base q kept → HasRoom o
        → kept_outcome h o ≡ kept
    same_outcome h base kept_base q o kept is comes kept_comes room =
        unique (kept_entries h) kept_base q (kept_outcome h o) kept (answers_alike h base kept_base q o is comes room) kept_comes

    pub replies_alike : RepliesAlike
    unfolding Alike
    replies_alike h base kept_base q o kept is comes kept_comes room =
        ap (reply_of (kept_entries h)) (sym (same_outcome h base kept_base q o kept is comes kept_comes room)) ∙ reply_so h o (alike h base kept_base q o is comes room).1

    pub histories_alike : HistoriesAlike
    unfolding Alike
    histories_alike h base kept_base q o kept is comes kept_comes room =
        ap (behind (kept_entries h)) (sym (same_outcome h base kept_base q o kept is comes kept_comes room)) ∙ behind_so h o (alike h base kept_base q o is comes room).1
