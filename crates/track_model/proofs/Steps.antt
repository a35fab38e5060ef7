-- Where an entry that steps alone limit, or open jobs and steps, comes to a limit, and what is added elsewhere.
use Rattle.std.proofs.lemmas.Grind.{common_steps}
use Rattle.std.{proofs.Common.{◌≡◌, ℕ, ◌+◌, ◌<◌, ◌≤◌, List, [], ◌∷◌, ◌++◌, length, refl, ◌∙◌, arith}, specs.Prelude.Some, proofs.lemmas.List.length-append}
use Rattle.metric_table.specs.Limits.{most}
use Rattle.metric_table.specs.declared.limits.Limit.TheVariants as limit
use Rattle.history_model.specs.{declared.entries.Entry.Entry, Jobs.{jobs, open_count}, Laws.{FirstPassed, FirstKept}}
use Rattle.history_model.specs.declared.entries.Entry.TheVariants as entry
use Rattle.history_model.specs.declared.events.JobEvent.TheVariants as job_event
use Rattle.request_model.specs.declared.replies.Answer.{Answer}
use Rattle.request_model.specs.declared.replies.Refusal.TheVariants as refusal
use Rattle.track_model.specs.Following as following
use Rattle.track_model.specs.Outcomes.{refuses, adds_within}

module _ (passed : FirstPassed) (kept : FirstKept) (h : List Entry) where
  more : (e : Entry) → length (h ++ e ∷ []) ≡ length h + 1
  more e = length-append h (e ∷ [])

  pub steps-full : (e : Entry) (told : Answer) → most limit.Steps ≤ length h → adds_within (limit.Steps ∷ []) h e told ≡ refuses (refusal.Full limit.Steps)
  steps-full e told full = grind (arith, common_steps)

  pub step-added : (e : Entry) (told : Answer) → length h < most limit.Steps → adds_within (limit.Steps ∷ []) h e told ≡ record { answer = told; adds = Some e }
  step-added e told room = grind (arith, common_steps)

  module _ (lo hi : ℕ) where
    abbrev b : Entry
    b = entry.Job (job_event.Begin lo hi)

    pub jobs-full : most limit.Jobs < open_count (jobs (h ++ b ∷ [])) → following.begin h lo hi ≡ refuses (refusal.Full limit.Jobs)
    jobs-full full =
        let row = passed limit.Jobs (limit.Steps ∷ []) h b full in
        rw row refl

    pub begin-steps-full : open_count (jobs (h ++ b ∷ [])) ≤ most limit.Jobs → most limit.Steps ≤ length h → following.begin h lo hi ≡ refuses (refusal.Full limit.Steps)
    begin-steps-full few full =
        let row = kept limit.Jobs (limit.Steps ∷ []) h b few ∙ passed limit.Steps [] h b (omega (arith, more b, full)) in
        rw row refl

    pub begin-added : open_count (jobs (h ++ b ∷ [])) ≤ most limit.Jobs → length h < most limit.Steps
        → following.begin h lo hi ≡ record { answer = following.job_answer (h ++ b ∷ []) (length (jobs h) + 1); adds = Some b }
    begin-added few room =
        let row = kept limit.Jobs (limit.Steps ∷ []) h b few ∙ kept limit.Steps [] h b (omega (arith, more b, room)) in
        rw row refl
