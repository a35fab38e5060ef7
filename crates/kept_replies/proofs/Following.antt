-- Regressions move, and jobs are begun and go on, on the kept history as on the history.
use Rattle.std.proofs.Common.{◌≡◌, ℕ, ◌+◌, inl, inr, ◌⊎◌, not, List, [], ◌∷◌, ◌++◌, Bool, length, map, Option, None, Some, refl, sym, ap, ap₂, subst, ◌∙◌}
use Rattle.std.specs.Prelude.{is_none, nat_lt, option_map, unwrap_or, ◌==◌}
use Rattle.metric_table.specs.declared.limits.Limit.TheVariants.{Jobs, Steps}
use Rattle.bisect_core.specs.{Bisections.{Bisection, is_open, asked_by}, declared.outcome.Outcome.Outcome as Standing}
use Rattle.bisect_core.specs.declared.outcome.Outcome.TheVariants.{Asks, Found, Undecided, Faulted}
use Rattle.regression_state.specs.{Moves.is_move, declared.states.State.State}
use Rattle.report_model.specs.declared.told.Told.TheVariants as told_as
use Rattle.history_model.specs.{declared.entries.Entry.Entry, declared.events.JobEvent.JobEvent, Commits.number_of, Jobs.{jobs, job_in}}
use Rattle.history_model.specs.declared.entries.Entry.TheVariants as entry
use Rattle.history_model.specs.declared.events.JobEvent.TheVariants as job_event
use Rattle.history_model.specs.declared.events.RegressionEvent.TheVariants as event
use Rattle.history_model.specs.Regressions.{regressions, state_of, is_number}
use Rattle.request_model.specs.declared.replies.Answer.{Answer}
use Rattle.request_model.specs.declared.replies.Answer.TheVariants as answer
use Rattle.request_model.specs.declared.replies.Refusal.TheVariants as refusal
use Rattle.track_model.specs.Following.{move_refusal, set_state, named_by, asked_commit, told_by, told_of, told_if, job_answer, job, begin, bisect_refusal, bisect, of_job, answer_refusal, say, answer_to, answer_job, is_found, resume_refusal, resume}
use Rattle.track_model.specs.Outcomes.{Outcome, tells, refuses, refusal_if, first, unless, adds_within}
use Rattle.keep_rows.{specs.Kept.kept_entries, proofs.Choices.{same_number, same_name}, proofs.Followed.{same_regressions, same_state, same_jobs}}
use Rattle.kept_replies.{specs.Replies.{kept_answer, kept_outcome, HasRoom}, proofs.Limits.kept_append}
use Rattle.kept_replies.proofs.Outcomes.{next, plain, form_so, form_kept, IsKept, TellsNone}

-- ---- state
module _ (h : List Entry) (number : ℕ) (state : State) where
  -- the refusals and the form where so many were raised and this one stands so
  abbrev move_row : ℕ → State → List (Option Answer)
  move_row count from =
      refusal_if (not (is_number count number)) refusal.UnknownRegression ∷ refusal_if (not (is_move from state)) (refusal.IllegalMove from state) ∷ []

  abbrev move_at : ℕ → State → Outcome
  move_at count from =
      unless (first (move_row count from))
      (adds_within (Steps ∷ []) (kept_entries h) (entry.Regression (event.Move number state)) (answer.Moved number from state))

  move_row_so : (count : ℕ) (from : State) → map (option_map (kept_answer h)) (move_row count from) ≡ move_row count from
  move_row_so count from =
      next (plain h (not (is_number count number)) refusal.UnknownRegression refl)
      (next (plain h (not (is_move from state)) (refusal.IllegalMove from state) refl) refl)

  pub state_so : HasRoom (set_state h number state) → kept_outcome h (set_state h number state) ≡ set_state (kept_entries h) number state
  state_so room =
      let count : ℕ = length (regressions h) in
      let from : State = state_of number h in
      let told : Answer = answer.Moved number from state in
      let row : List (Option Answer) = move_row count from in
      form_so h (Steps ∷ []) (entry.Regression (event.Move number state)) told row row told tt refl (move_row_so count from) refl room
      ∙ ap₂ move_at (sym (ap length (same_regressions h))) (sym (same_state number h))

  pub state_kept : IsKept (set_state h number state)
  state_kept =
      form_kept h (Steps ∷ []) (move_refusal h number state) (entry.Regression (event.Move number state)) (answer.Moved number (state_of number h) state)
      refl (λ g. refl)

-- ---- what is told of a job
module _ (h : List Entry) where
  named_so : (number : ℕ) → named_by (kept_entries h) number ≡ named_by h number
  named_so number = ap (λ (name : Option (List ℕ)). unwrap_or name []) (same_name h number)

  told_with : (b : Bisection) (o : Standing) → told_by (kept_entries h) b o ≡ told_by h b o
  told_with b (Asks place) = ap told_as.Asks (named_so (asked_commit b))
  told_with b (Found lo hi) = ap₂ told_as.Found (named_so b.low_commit) (named_so b.high_commit)
  told_with b (Undecided place status) = ap (λ (name : List ℕ). told_as.Undecided name status) (named_so (unwrap_or b.end_commit 0))
  told_with b (Faulted place) = ap told_as.Faulted (named_so (unwrap_or b.end_commit 0))

  told_so : (b : Bisection) → told_of (kept_entries h) b ≡ told_of h b
  told_so b = told_with b b.outcome

  told_if_so : (number : ℕ) (o : Option Bisection) → told_if (kept_entries h) number o ≡ told_if h number o
  told_if_so number None = refl
  told_if_so number (Some b) = ap (answer.Job number b.range b.questions) (told_so b)

  job_so : (number : ℕ) → job_answer (kept_entries h) number ≡ job_answer h number
  job_so number = ap (λ js. told_if (kept_entries h) number (job_in number js)) (same_jobs h) ∙ told_if_so number (job_in number (jobs h))

  told_plain : (number : ℕ) (o : Option Bisection) → TellsNone (told_if h number o)
  told_plain number None g = refl
  told_plain number (Some b) g = refl

  job_plain : (number : ℕ) → TellsNone (job_answer h number)
  job_plain number = told_plain number (job_in number (jobs h))

-- ---- what a job is told behind an entry of it
behind_so : (h : List Entry) (e : JobEvent) (number : ℕ)
    → job_answer (kept_entries h ++ entry.Job e ∷ []) number ≡ job_answer (h ++ entry.Job e ∷ []) number
behind_so h e number = ap (λ (g : List Entry). job_answer g number) (kept_append h (entry.Job e) refl) ∙ job_so (h ++ entry.Job e ∷ []) number

module _ (h : List Entry) where
  -- a form that begins a job, behind its refusals
  begin_so : (row others : List (Option Answer)) (lo hi : ℕ) → map (option_map (kept_answer h)) row ≡ others → HasRoom (unless (first row) (begin h lo hi))
      → kept_outcome h (unless (first row) (begin h lo hi)) ≡ unless (first others) (begin (kept_entries h) lo hi)
  begin_so row others lo hi rows room =
      let e : JobEvent = job_event.Begin lo hi in
      let now : ℕ = length (jobs h) + 1 in
      let then : ℕ = length (jobs (kept_entries h)) + 1 in
      form_so h (Jobs ∷ Steps ∷ []) (entry.Job e) (job_answer (h ++ entry.Job e ∷ []) now) row others
      (job_answer (kept_entries h ++ entry.Job e ∷ []) then) tt refl rows
      (job_plain (h ++ entry.Job e ∷ []) now h ∙ sym (behind_so h e now)
      ∙ ap (λ js. job_answer (kept_entries h ++ entry.Job e ∷ []) (length js + 1)) (sym (same_jobs h))) room

  begin_kept : (r : Option Answer) (lo hi : ℕ) → IsKept (unless r (begin h lo hi))
  begin_kept r lo hi =
      let e : Entry = entry.Job (job_event.Begin lo hi) in
      form_kept h (Jobs ∷ Steps ∷ []) r e (job_answer (h ++ e ∷ []) (length (jobs h) + 1)) refl (job_plain (h ++ e ∷ []) (length (jobs h) + 1))

  -- a form that says something of a job, behind its refusals
  say_so : (row others : List (Option Answer)) (number : ℕ) (e : JobEvent) → map (option_map (kept_answer h)) row ≡ others
      → HasRoom (unless (first row) (say h number e))
      → kept_outcome h (unless (first row) (say h number e)) ≡ unless (first others) (say (kept_entries h) number e)
  say_so row others number e rows room =
      form_so h (Steps ∷ []) (entry.Job e) (job_answer (h ++ entry.Job e ∷ []) number) row others
      (job_answer (kept_entries h ++ entry.Job e ∷ []) number) tt refl rows
      (job_plain (h ++ entry.Job e ∷ []) number h ∙ sym (behind_so h e number)) room

  say_kept : (r : Option Answer) (number : ℕ) (e : JobEvent) → IsKept (unless r (say h number e))
  say_kept r number e = form_kept h (Steps ∷ []) r (entry.Job e) (job_answer (h ++ entry.Job e ∷ []) number) refl (job_plain (h ++ entry.Job e ∷ []) number)

  -- ---- bisect
  abbrev bisect_row : Option ℕ → Option ℕ → List (Option Answer)
  bisect_row lo hi =
      refusal_if (is_none lo) refusal.UnknownCommit
      ∷ refusal_if (is_none hi) refusal.UnknownCommit
      ∷ refusal_if (not (nat_lt (unwrap_or lo 0) (unwrap_or hi 0))) refusal.BadRange
      ∷ []

  abbrev bisect_at : Option ℕ → Option ℕ → Outcome
  bisect_at lo hi = unless (first (bisect_row lo hi)) (begin (kept_entries h) (unwrap_or lo 0) (unwrap_or hi 0))

  bisect_row_so : (lo hi : Option ℕ) → map (option_map (kept_answer h)) (bisect_row lo hi) ≡ bisect_row lo hi
  bisect_row_so lo hi =
      next (plain h (is_none lo) refusal.UnknownCommit refl)
      (next (plain h (is_none hi) refusal.UnknownCommit refl) (next (plain h (not (nat_lt (unwrap_or lo 0) (unwrap_or hi 0))) refusal.BadRange refl) refl))

  pub bisect_so : (lo hi : List ℕ) → HasRoom (bisect h lo hi) → kept_outcome h (bisect h lo hi) ≡ bisect (kept_entries h) lo hi
  bisect_so lo hi room =
      let low : Option ℕ = number_of lo h in
      let high : Option ℕ = number_of hi h in
      begin_so (bisect_row low high) (bisect_row low high) (unwrap_or low 0) (unwrap_or high 0) (bisect_row_so low high) room
      ∙ ap₂ bisect_at (sym (same_number h lo)) (sym (same_number h hi))

  pub bisect_kept : (lo hi : List ℕ) → IsKept (bisect h lo hi)
  bisect_kept lo hi = begin_kept (bisect_refusal (number_of lo h) (number_of hi h)) (unwrap_or (number_of lo h) 0) (unwrap_or (number_of hi h) 0)

  -- ---- the forms of a job that is there
  of_none : (g : List Entry) (number : ℕ) (told : Bisection → Outcome) → job_in number (jobs g) ≡ None → of_job g number told ≡ refuses refusal.UnknownJob
  of_none g number told none = rw none refl

  of_some : (g : List Entry) (number : ℕ) (told : Bisection → Outcome) (b : Bisection) → job_in number (jobs g) ≡ Some b → of_job g number told ≡ told b
  of_some g number told b some = rw some refl

  is_there : (o : Option Bisection) → (o ≡ None) ⊎ ((b : Bisection) × (o ≡ Some b))
  is_there None = inl refl
  is_there (Some b) = inr (b, refl)

  of_job_so : (number : ℕ) (told kept : Bisection → Outcome) → ((b : Bisection) → HasRoom (told b) → kept_outcome h (told b) ≡ kept b)
      → HasRoom (of_job h number told) → kept_outcome h (of_job h number told) ≡ of_job (kept_entries h) number kept
  of_job_so number told kept same room =
      let there : job_in number (jobs (kept_entries h)) ≡ job_in number (jobs h) = ap (job_in number) (same_jobs h) in
      elim (is_there (job_in number (jobs h))) [
        | inl none ↦ ap (kept_outcome h) (of_none h number told none) ∙ sym (of_none (kept_entries h) number kept (there ∙ none))
        | inr some ↦
            ap (kept_outcome h) (of_some h number told some.0 some.1)
            ∙ same some.0 (subst HasRoom (of_some h number told some.0 some.1) room)
            ∙ sym (of_some (kept_entries h) number kept some.0 (there ∙ some.1))
      ]

  of_job_kept : (number : ℕ) (told : Bisection → Outcome) → ((b : Bisection) → IsKept (told b)) → IsKept (of_job h number told)
  of_job_kept number told each = elim (is_there (job_in number (jobs h))) [
    | inl none ↦ subst IsKept (sym (of_none h number told none)) tt
    | inr some ↦ subst IsKept (sym (of_some h number told some.0 some.1)) (each some.0)
  ]

  -- ---- answer
  abbrev answer_row : List Entry → Bisection → Option ℕ → List (Option Answer)
  answer_row g b commit =
      refusal_if (is_none commit) refusal.UnknownCommit
      ∷ refusal_if (not (is_open b.outcome)) (refusal.JobClosed (told_of g b))
      ∷ refusal_if (not (unwrap_or commit 0 == asked_commit b)) (refusal.NotAsked (named_by g (asked_commit b)))
      ∷ []

  answer_row_so : (b : Bisection) (commit : Option ℕ) → map (option_map (kept_answer h)) (answer_row h b commit) ≡ answer_row (kept_entries h) b commit
  answer_row_so b commit =
      let closed : Bool = not (is_open b.outcome) in
      let another : Bool = not (unwrap_or commit 0 == asked_commit b) in
      next (plain h (is_none commit) refusal.UnknownCommit refl)
      (next (plain h closed (refusal.JobClosed (told_of h b)) refl ∙ ap (λ told. refusal_if closed (refusal.JobClosed told)) (sym (told_so h b)))
      (next (plain h another (refusal.NotAsked (named_by h (asked_commit b))) refl
      ∙ ap (λ (name : List ℕ). refusal_if another (refusal.NotAsked name)) (sym (named_so h (asked_commit b)))) refl))

  abbrev answer_at : ℕ → ℕ → Bisection → Option ℕ → Outcome
  answer_at number status b commit =
      unless (first (answer_row (kept_entries h) b commit)) (say (kept_entries h) number (job_event.Answer number (unwrap_or (asked_by b.outcome) 0) status))

  answer_to_so : (number : ℕ) (commit : List ℕ) (status : ℕ) (b : Bisection) → HasRoom (answer_to h number commit status b)
      → kept_outcome h (answer_to h number commit status b) ≡ answer_to (kept_entries h) number commit status b
  answer_to_so number commit status b room =
      let at : Option ℕ = number_of commit h in
      let e : JobEvent = job_event.Answer number (unwrap_or (asked_by b.outcome) 0) status in
      say_so (answer_row h b at) (answer_row (kept_entries h) b at) number e (answer_row_so b at) room
      ∙ ap (answer_at number status b) (sym (same_number h commit))

  pub answer_so : (number : ℕ) (commit : List ℕ) (status : ℕ) → HasRoom (answer_job h number commit status)
      → kept_outcome h (answer_job h number commit status) ≡ answer_job (kept_entries h) number commit status
  answer_so number commit status room =
      of_job_so number (answer_to h number commit status) (answer_to (kept_entries h) number commit status) (answer_to_so number commit status) room

  pub answer_kept : (number : ℕ) (commit : List ℕ) (status : ℕ) → IsKept (answer_job h number commit status)
  answer_kept number commit status =
      of_job_kept number (answer_to h number commit status)
      (λ b. say_kept (answer_refusal h b (number_of commit h)) number (job_event.Answer number (unwrap_or (asked_by b.outcome) 0) status))

  -- ---- resume
  abbrev resume_row : List Entry → Bisection → List (Option Answer)
  resume_row g b =
      refusal_if (is_open b.outcome) (refusal.JobOpen (named_by g (asked_commit b))) ∷ refusal_if (is_found b.outcome) (refusal.JobClosed (told_of g b)) ∷ []

  resume_row_so : (b : Bisection) → map (option_map (kept_answer h)) (resume_row h b) ≡ resume_row (kept_entries h) b
  resume_row_so b =
      next (plain h (is_open b.outcome) (refusal.JobOpen (named_by h (asked_commit b))) refl
      ∙ ap (λ (name : List ℕ). refusal_if (is_open b.outcome) (refusal.JobOpen name)) (sym (named_so h (asked_commit b))))
      (next (plain h (is_found b.outcome) (refusal.JobClosed (told_of h b)) refl
      ∙ ap (λ told. refusal_if (is_found b.outcome) (refusal.JobClosed told)) (sym (told_so h b))) refl)

  abbrev resumed : List Entry → Bisection → Outcome
  resumed g b = unless (resume_refusal g b) (begin g b.low_commit b.high_commit)

  pub resume_so : (number : ℕ) → HasRoom (resume h number) → kept_outcome h (resume h number) ≡ resume (kept_entries h) number
  resume_so number room =
      of_job_so number (resumed h) (resumed (kept_entries h))
      (λ b free. begin_so (resume_row h b) (resume_row (kept_entries h) b) b.low_commit b.high_commit (resume_row_so b) free) room

  pub resume_kept : (number : ℕ) → IsKept (resume h number)
  resume_kept number = of_job_kept number (resumed h) (λ b. begin_kept (resume_refusal h b) b.low_commit b.high_commit)

  -- ---- job
  pub told_job_so : (number : ℕ) → kept_outcome h (job h number) ≡ job (kept_entries h) number
  told_job_so number = ap tells (job_plain h number h ∙ sym (job_so h number))
