-- Where a form comes to a limit, and what it adds elsewhere.
use Rattle.std.proofs.{Common.{◌≡◌, ℕ, ℤ, ◌+◌, ◌<◌, ◌≤◌, List, [], ◌∷◌, ◌++◌, length, refl, ap, ◌∙◌, arith}, lemmas.Grind.common_steps}
use Rattle.std.{specs.Prelude.{Some, None, find, option_map}, proofs.lemmas.List.length-append}
use Rattle.metric_table.specs.Limits.{most}
use Rattle.metric_table.specs.declared.limits.Limit.TheVariants as limit
use Rattle.history_model.specs.{declared.entries.Declaration.Declaration, declared.entries.Entry.Entry, Allowed.{Allowed, KeepsLimits}}
use Rattle.history_model.specs.declared.entries.Entry.TheVariants as entry
use Rattle.request_model.specs.declared.replies.Answer.TheVariants as answer
use Rattle.request_model.specs.declared.replies.Refusal.TheVariants as refusal
use Rattle.history_model.specs.{Commits.{declarations, has_number, has_name}, Laws.{DeclarationsGrow, FirstPassed, FirstKept, LimitsAfterCommit}}
use Rattle.track_model.specs.Forms as forms
use Rattle.track_model.{specs.Laws.CommitFits, specs.Outcomes.refuses, proofs.Steps.{steps-full, step-added}}

free-pair : (commits : List Declaration) (number : ℕ) (name : List ℕ) → forms.commit_refusal commits number name ≡ None
    → (find (has_number number) commits ≡ None) × (find (has_name name) commits ≡ None)
free-pair commits number name free = grind (arith, common_steps)

module _ (passed : FirstPassed) (kept : FirstKept) where
  -- ---- commit
  module _ (grow : DeclarationsGrow) (h : List Entry) (number : ℕ) (name : List ℕ) where
    abbrev e : Entry
    e = entry.Commit number name

    declared : length (declarations (h ++ e ∷ [])) ≡ length (declarations h) + 1
    declared = ap length (grow h e) ∙ length-append (declarations h) (record { step = length h + 1; number = number; name = name } ∷ [])

    steps : length (h ++ e ∷ []) ≡ length h + 1
    steps = length-append h (e ∷ [])

    pub commits-full : forms.commit_refusal (declarations h) number name ≡ None → most limit.Commits ≤ length (declarations h)
        → forms.commit h number name ≡ refuses (refusal.Full limit.Commits)
    commits-full free full =
        let row = passed limit.Commits (limit.Steps ∷ []) h e (omega (arith, declared, full)) in
        rw (free, row) refl

    pub commit-steps-full : forms.commit_refusal (declarations h) number name ≡ None → length (declarations h) < most limit.Commits → most limit.Steps ≤ length h
        → forms.commit h number name ≡ refuses (refusal.Full limit.Steps)
    commit-steps-full free few full =
        let row = kept limit.Commits (limit.Steps ∷ []) h e (omega (arith, declared, few)) ∙ passed limit.Steps [] h e (omega (arith, steps, full)) in
        rw (free, row) refl

    pub commit-added : CommitFits h number name → forms.commit h number name ≡ record { answer = answer.Commit number name; adds = Some e }
    commit-added fits =
        let few = fits.commits in
        let room = fits.steps in
        let row = kept limit.Commits (limit.Steps ∷ []) h e (omega (arith, declared, few)) ∙ kept limit.Steps [] h e (omega (arith, steps, room)) in
        rw (fits.free, row) refl

    pub commit-allowed : LimitsAfterCommit → KeepsLimits h → CommitFits h number name → Allowed h e
    commit-allowed limits keeps fits =
        let none = free-pair (declarations h) number name fits.free in
        ((ap (option_map (λ (d : Declaration). d.name)) none.0, ap (option_map (λ (d : Declaration). d.number)) none.1), limits h number name keeps fits.steps fits.commits)

  -- ---- retract
  module _ (h : List Entry) (run : List ℕ) (free : forms.retract_refusal h run ≡ None) where
    pub retract-steps-full : most limit.Steps ≤ length h → forms.retract h run ≡ refuses (refusal.Full limit.Steps)
    retract-steps-full full = rw free (steps-full passed kept h (entry.Retract run) (answer.Retracted run) full)

    pub retract-added : length h < most limit.Steps → forms.retract h run ≡ record { answer = answer.Retracted run; adds = Some (entry.Retract run) }
    retract-added room = rw free (step-added passed kept h (entry.Retract run) (answer.Retracted run) room)

  -- ---- tune
  module _ (h : List Entry) (metric : List ℕ) (penalty : ℤ) (len : ℕ) (free : forms.tune_refusal metric penalty len ≡ None) where
    pub tune-steps-full : most limit.Steps ≤ length h → forms.tune h metric penalty len ≡ refuses (refusal.Full limit.Steps)
    tune-steps-full full = rw free (steps-full passed kept h (entry.Tune metric penalty len) (answer.Tuned metric penalty len) full)

    pub tune-added : length h < most limit.Steps → forms.tune h metric penalty len ≡ record { answer = answer.Tuned metric penalty len; adds = Some (entry.Tune metric penalty len) }
    tune-added room = rw free (step-added passed kept h (entry.Tune metric penalty len) (answer.Tuned metric penalty len) room)
