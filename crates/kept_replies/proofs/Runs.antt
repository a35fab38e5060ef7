-- Runs are accepted, taken back and listed, and penalties are set, on the kept history as on the history.
use Rattle.std.proofs.Common.{◌≡◌, ℕ, ℤ, inl, inr, Bool, not, List, [], ◌∷◌, length, map, Option, None, Some, refl, sym, ap, ap₂, ◌∙◌}
use Rattle.std.{specs.Prelude.{codes, find, is_none, nat_lt, option_map, unwrap_or}, proofs.lemmas.Bool.cases_Bool}
use Rattle.metric_table.specs.declared.limits.Limit.TheVariants.{Steps}
use Rattle.sample_model.specs.Samples.{Measurement}
use Rattle.history_model.specs.{declared.entries.Acceptance.Acceptance, declared.entries.Entry.Entry, declared.run.Run.Run, Allowed.run_limits}
use Rattle.history_model.specs.declared.entries.Entry.TheVariants as entry
use Rattle.history_model.specs.{Commits.number_of, Runs.{Retraction, acceptances, accepted, is_run, retracted, retractions, same_run, takes_back}}
use Rattle.request_model.specs.declared.{replies.Answer.Answer, runs.RunLine.RunLine}
use Rattle.request_model.specs.declared.replies.Answer.TheVariants as answer
use Rattle.request_model.specs.declared.replies.Refusal.TheVariants as refusal
use Rattle.track_model.specs.Forms.{told_again, states_another, submitted, submit_refusal, submit, retract_refusal, retract, is_penalty, is_length, tune_refusal, tune, run_line, runs}
use Rattle.track_model.specs.Outcomes.{Outcome, tells, refusal_if, first, unless, adds_within}
use Rattle.keep_rows.{specs.Kept.kept_entries, proofs.Choices.{find_map, map_map, map_so, same_number, same_name}, proofs.Unpublished.is_none_map}
use Rattle.kept_replies.{specs.Replies.{kept_step, kept_answer, kept_outcome, HasRoom}, proofs.Outcomes.{next, plain, form_so, form_kept, IsKept}}
use Rattle.kept_replies.proofs.Steps.{accepted_at, retracted_at, kept_acceptances, kept_retractions}

module _ (h : List Entry) where
  -- ---- the run of a name, and its retraction
  accepted_with : (run : List ℕ) → accepted run (kept_entries h) ≡ option_map (accepted_at (kept_step h)) (accepted run h)
  accepted_with run = ap (find (is_run run)) (kept_acceptances h) ∙ sym (find_map (accepted_at (kept_step h)) (is_run run) (acceptances h))

  retracted_with : (run : List ℕ) → retracted run (kept_entries h) ≡ option_map (retracted_at (kept_step h)) (retracted run h)
  retracted_with run = ap (find (takes_back run)) (kept_retractions h) ∙ sym (find_map (retracted_at (kept_step h)) (takes_back run) (retractions h))

  unknown_so : (run : List ℕ) → is_none (accepted run (kept_entries h)) ≡ is_none (accepted run h)
  unknown_so run = ap is_none (accepted_with run) ∙ is_none_map (accepted_at (kept_step h)) (accepted run h)

  live_so : (run : List ℕ) → is_none (retracted run (kept_entries h)) ≡ is_none (retracted run h)
  live_so run = ap is_none (retracted_with run) ∙ is_none_map (retracted_at (kept_step h)) (retracted run h)

  -- ---- submit
  again_so : (run : Run) (x : Option Acceptance)
      → option_map (kept_answer h) (option_map (told_again run) x) ≡ option_map (told_again run) (option_map (accepted_at (kept_step h)) x)
  again_so run None = refl
  again_so run (Some a) = elim (cases_Bool (same_run run a.run)) [ inl hit ↦ rw hit refl | inr past ↦ rw past refl ]

  module _ (machine commit run : List ℕ) (samples : List Measurement) (ignored : ℕ) (stated : Option (List ℕ)) where
    -- the run, the refusals and the form where the commit has a number
    abbrev new : Option ℕ → Run
    new number = record { run = run; commit = unwrap_or number 0; samples = samples }

    abbrev submit_row : List Entry → Option ℕ → List (Option Answer)
    submit_row g number =
        refusal_if (states_another machine stated) (refusal.NotReport 6 (codes "machine.name"))
        ∷ refusal_if (is_none number) refusal.UnknownCommit
        ∷ option_map (told_again (new number)) (accepted run g)
        ∷ []

    abbrev submit_at : List Entry → Option ℕ → Outcome
    submit_at g number =
        unless (first (submit_row g number)) (adds_within run_limits g (entry.Accept (new number)) (answer.Accepted run (length samples) ignored))

    submit_row_so : (number : Option ℕ) → map (option_map (kept_answer h)) (submit_row h number) ≡ submit_row (kept_entries h) number
    submit_row_so number =
        let again : Option Acceptance → Option Answer = option_map (told_again (new number)) in
        next (plain h (states_another machine stated) (refusal.NotReport 6 (codes "machine.name")) refl)
        (next (plain h (is_none number) refusal.UnknownCommit refl)
        (next (again_so (new number) (accepted run h) ∙ ap again (sym (accepted_with run))) refl))

    pub submit_so : HasRoom (submit h machine commit run samples ignored stated)
        → kept_outcome h (submit h machine commit run samples ignored stated) ≡ submit (kept_entries h) machine commit run samples ignored stated
    submit_so room =
        let number : Option ℕ = number_of commit h in
        let told : Answer = answer.Accepted run (length samples) ignored in
        form_so h run_limits (entry.Accept (new number)) told (submit_row h number) (submit_row (kept_entries h) number) told tt refl
        (submit_row_so number) refl room
        ∙ ap (submit_at (kept_entries h)) (sym (same_number h commit))

    pub submit_kept : IsKept (submit h machine commit run samples ignored stated)
    submit_kept =
        form_kept h run_limits (submit_refusal h machine commit (submitted h commit run samples) stated) (entry.Accept (submitted h commit run samples))
        (answer.Accepted run (length samples) ignored) refl (λ g. refl)

  -- ---- retract
  module _ (run : List ℕ) where
    abbrev taken_back : Retraction → Answer
    taken_back r = answer.Refused (refusal.AlreadyRetracted r.step)

    abbrev retract_row : List Entry → List (Option Answer)
    retract_row g = refusal_if (is_none (accepted run g)) refusal.UnknownRun ∷ option_map taken_back (retracted run g) ∷ []

    back_so : (x : Option Retraction) → option_map (kept_answer h) (option_map taken_back x) ≡ option_map taken_back (option_map (retracted_at (kept_step h)) x)
    back_so None = refl
    back_so (Some r) = refl

    retract_row_so : map (option_map (kept_answer h)) (retract_row h) ≡ retract_row (kept_entries h)
    retract_row_so =
        next (plain h (is_none (accepted run h)) refusal.UnknownRun refl ∙ ap (λ (b : Bool). refusal_if b refusal.UnknownRun) (sym (unknown_so run)))
        (next (back_so (retracted run h) ∙ ap (option_map taken_back) (sym (retracted_with run))) refl)

    pub retract_so : HasRoom (retract h run) → kept_outcome h (retract h run) ≡ retract (kept_entries h) run
    retract_so room =
        form_so h (Steps ∷ []) (entry.Retract run) (answer.Retracted run) (retract_row h) (retract_row (kept_entries h)) (answer.Retracted run) tt refl
        retract_row_so refl room

    pub retract_kept : IsKept (retract h run)
    retract_kept = form_kept h (Steps ∷ []) (retract_refusal h run) (entry.Retract run) (answer.Retracted run) refl (λ g. refl)

  -- ---- tune
  module _ (metric : List ℕ) (penalty : ℤ) (len : ℕ) where
    abbrev tune_row : List (Option Answer)
    tune_row = refusal_if (nat_lt 64 (length metric)) refusal.BadName ∷ refusal_if (not (is_penalty penalty)) refusal.BadPenalty ∷ refusal_if (not (is_length len)) refusal.BadLength ∷ []

    pub tune_so : HasRoom (tune h metric penalty len) → kept_outcome h (tune h metric penalty len) ≡ tune (kept_entries h) metric penalty len
    tune_so room =
        form_so h (Steps ∷ []) (entry.Tune metric penalty len) (answer.Tuned metric penalty len) tune_row tune_row (answer.Tuned metric penalty len) tt refl
        (next (plain h (nat_lt 64 (length metric)) refusal.BadName refl) (next (plain h (not (is_penalty penalty)) refusal.BadPenalty refl) (next (plain h (not (is_length len)) refusal.BadLength refl) refl))) refl room

    pub tune_kept : IsKept (tune h metric penalty len)
    tune_kept = form_kept h (Steps ∷ []) (tune_refusal metric penalty len) (entry.Tune metric penalty len) (answer.Tuned metric penalty len) refl (λ g. refl)

  -- ---- runs
  line_so : (a : Acceptance) → run_line (kept_entries h) (accepted_at (kept_step h) a) ≡ run_line h a
  line_so a =
      ap₂ (λ (name : Option (List ℕ)) (live : Bool). record { run = a.run.run; commit = unwrap_or name []; samples = length a.run.samples; live = live })
      (same_name h a.run.commit) (live_so a.run.run)

  pub runs_so : kept_outcome h (runs h) ≡ runs (kept_entries h)
  runs_so =
      ap (λ (lines : List RunLine). tells (answer.Runs lines))
      (sym (
      ap (map (run_line (kept_entries h))) (kept_acceptances h) ∙ sym (map_map (accepted_at (kept_step h)) (run_line (kept_entries h)) (acceptances h))
      ∙ map_so (λ (a : Acceptance). run_line (kept_entries h) (accepted_at (kept_step h) a)) (run_line h) line_so (acceptances h)
      ))
