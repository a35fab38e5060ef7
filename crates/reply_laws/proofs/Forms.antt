-- Private: no public contract cites this. What each form comes to adds an entry exactly where its form and answer say so.
use Rattle.std.proofs.Common.{◌≡◌, inl, inr, ℕ, ℤ, pos, ◌*◌, ◌+◌, Bool, true, false, not, List, [], ◌∷◌, length, Option, Some, None, refl, sym, subst}
use Rattle.std.{specs.Prelude.{codes, is_none, nat_lt, max, find, option_map, bytes_eq, unwrap_or, ◌==◌}, proofs.lemmas.Bool.cases_Bool}
use Rattle.metric_table.specs.declared.limits.Limit.TheVariants.{Commits, Cuts, Jobs, Steps}
use Rattle.sample_model.specs.Samples.{Measurement}
use Rattle.bisect_core.specs.Bisections.{is_open, asked_by}
use Rattle.regression_state.specs.{declared.states.State.State, Moves.is_move}
use Rattle.history_model.specs.declared.entries.{Acceptance.Acceptance, Declaration.Declaration, Entry.Entry}
use Rattle.history_model.specs.declared.entries.Entry.TheVariants as entry
use Rattle.history_model.specs.declared.events.JobEvent.TheVariants as event
use Rattle.history_model.specs.declared.events.RegressionEvent.TheVariants as change
use Rattle.history_model.specs.{declared.publication.Publication.Publication, declared.run.Run.Run, Allowed.run_limits}
use Rattle.history_model.specs.{Commits.{declarations, has_number, has_name, number_of}, Penalties.length_of, Positions.positions}
use Rattle.history_model.specs.{Publications.last_publication, Regressions.{regressions, state_of, is_number}}
use Rattle.history_model.specs.Runs.{Retraction, Series, accepted, is_known, retracted, same_run}
use Rattle.request_model.specs.declared.{requests.Request.Request, replies.Answer.Answer, replies.Refusal.Refusal}
use Rattle.request_model.specs.declared.requests.Request.TheVariants as request
use Rattle.request_model.specs.declared.replies.Answer.TheVariants as answer
use Rattle.request_model.specs.declared.replies.Refusal.TheVariants as refusal
use Rattle.track_model.specs.Following as following
use Rattle.track_model.specs.Forms as forms
use Rattle.track_model.specs.Outcomes.{Outcome, tells, refuses, refusal_if, first, unless}
use Rattle.track_model.specs.Publishing.{OfKnown, OfPublished, OfLatest, OfFactor, OfMany, IsPublishedFrom, IsCalibrated, TellsChanges, TellsCertificate, later, publication, publish, redone_since, segmented, is_factor}
use Rattle.reply_laws.specs.{Kinds.{adds_none, tells_none}, Laws.KindsAreTold}
use Rattle.reply_laws.proofs.Plain.{Plain, AreTold, told-first, told-if, told-map, plain-unless, plain-within, told-begun, told-said, plain-job}

-- ---- relations between an outcome and what it comes from

abbrev Each : (Outcome → Type 0) → (Outcome → Type 0) → Type 0
Each Comes P = (o : Outcome) → Comes o → P o

module _ (P : Outcome → Type 0) (refused : (r : Refusal) → P (refuses r)) where
  of-known : (Comes : Outcome → Type 0) → Each Comes P → (b : Bool) → Each (OfKnown b Comes) P
  of-known Comes each false o is = subst P (sym is) (refused refusal.UnknownSeries)
  of-known Comes each true o is = each o is

  of-published : (Comes : Publication → Outcome → Type 0) → ((p : Publication) → Each (Comes p) P) → (x : Option Publication) → Each (OfPublished x Comes) P
  of-published Comes each None o is = subst P (sym is) (refused refusal.NothingPublished)
  of-published Comes each (Some p) o is = each p o is

  of-latest : (Comes : Outcome → Type 0) → Each Comes P → (x : Option ℕ) → Each (OfLatest x Comes) P
  of-latest Comes each None o is = each o is
  of-latest Comes each (Some version) o is = subst P (sym is) (refused (refusal.Stale version))

  of-factor : (Comes : Outcome → Type 0) → Each Comes P → (b : Bool) → Each (OfFactor b Comes) P
  of-factor Comes each false o is = subst P (sym is) (refused refusal.BadPenalty)
  of-factor Comes each true o is = each o is

  of-many : (Comes : Outcome → Type 0) → Each Comes P → (b : Bool) (n : ℕ) → Each (OfMany b n Comes) P
  of-many Comes each true n o is = subst P (sym is) (refused (refusal.TooFewPoints n))
  of-many Comes each false n o is = each o is

-- ---- refusals

told-again : (run : Run) (a : Acceptance) → tells_none (forms.told_again run a) ≡ true
told-again run a = elim (cases_Bool (same_run run a.run)) [ inl hit ↦ rw hit refl | inr past ↦ rw past refl ]

told-pair : (name : List ℕ) (d : Declaration) → tells_none (forms.told_of name d) ≡ true
told-pair name d = elim (cases_Bool (bytes_eq d.name name)) [ inl hit ↦ rw hit refl | inr past ↦ rw past refl ]

-- ---- the forms

plain-tune : (h : List Entry) (metric : List ℕ) (penalty : ℤ) (len : ℕ) → Plain (forms.tune h metric penalty len)
plain-tune h metric penalty len =
    plain-unless (forms.tune_refusal metric penalty len) _
    (told-first (refusal_if (nat_lt 64 (length metric)) refusal.BadName ∷ refusal_if (not (forms.is_penalty penalty)) refusal.BadPenalty
    ∷ refusal_if (not (forms.is_length len)) refusal.BadLength ∷ [])
    (told-if (nat_lt 64 (length metric)) refusal.BadName, (told-if (not (forms.is_penalty penalty)) refusal.BadPenalty, (told-if (not (forms.is_length len)) refusal.BadLength, tt))))
    (plain-within (Steps ∷ []) h (entry.Tune metric penalty len) (answer.Tuned metric penalty len) refl)

plain-commit : (h : List Entry) (number : ℕ) (name : List ℕ) → Plain (forms.commit h number name)
plain-commit h number name =
    let numbered : Option Declaration = find (has_number number) (declarations h) in
    let called : Option Declaration = find (has_name name) (declarations h) in
    plain-unless (forms.commit_refusal (declarations h) number name) _
    (told-first (option_map (forms.told_of name) numbered ∷ option_map forms.taken_by called ∷ [])
    (told-map (forms.told_of name) (told-pair name) numbered, (told-map forms.taken_by (λ d. refl) called, tt)))
    (plain-within (Commits ∷ Steps ∷ []) h (entry.Commit number name) (answer.Commit number name) refl)

plain-submit : (h : List Entry) (machine commit run : List ℕ) (samples : List Measurement) (ignored : ℕ) (stated : Option (List ℕ))
    → Plain (forms.submit h machine commit run samples ignored stated)
plain-submit h machine commit run samples ignored stated =
    let new : Run = forms.submitted h commit run samples in
    plain-unless (forms.submit_refusal h machine commit new stated) _
    (told-first (refusal_if (forms.states_another machine stated) (refusal.NotReport 6 (codes "machine.name"))
    ∷ refusal_if (is_none (number_of commit h)) refusal.UnknownCommit
    ∷ option_map (forms.told_again new) (accepted new.run h) ∷ [])
    (told-if (forms.states_another machine stated) _, (told-if (is_none (number_of commit h)) _, (told-map (forms.told_again new) (told-again new) (accepted new.run h), tt))))
    (plain-within run_limits h (entry.Accept new) (answer.Accepted run (length samples) ignored) refl)

plain-retract : (h : List Entry) (run : List ℕ) → Plain (forms.retract h run)
plain-retract h run =
    plain-unless (forms.retract_refusal h run) _
    (told-first (refusal_if (is_none (accepted run h)) refusal.UnknownRun
    ∷ option_map (λ (r : Retraction). answer.Refused (refusal.AlreadyRetracted r.step)) (retracted run h) ∷ [])
    (told-if (is_none (accepted run h)) _, (told-map (λ (r : Retraction). answer.Refused (refusal.AlreadyRetracted r.step)) (λ r. refl) (retracted run h), tt)))
    (plain-within (Steps ∷ []) h (entry.Retract run) (answer.Retracted run) refl)

plain-state : (h : List Entry) (number : ℕ) (state : State) → Plain (following.set_state h number state)
plain-state h number state =
    let from : State = state_of number h in
    plain-unless (following.move_refusal h number state) _
    (told-first (refusal_if (not (is_number (length (regressions h)) number)) refusal.UnknownRegression
    ∷ refusal_if (not (is_move from state)) (refusal.IllegalMove from state) ∷ [])
    (told-if (not (is_number (length (regressions h)) number)) _, (told-if (not (is_move from state)) _, tt)))
    (plain-within (Steps ∷ []) h (entry.Regression (change.Move number state)) (answer.Moved number from state) refl)

plain-raise : (h : List Entry) (s : Series) (number : ℕ) (p : Publication) → Plain (following.raise h s number p)
plain-raise h s number p =
    plain-unless (following.raise_refusal p number) _
    (told-if (not (is_number (length p.cuts) number)) (refusal.NoSuchChange (length p.cuts)))
    (plain-within (Steps ∷ []) h (entry.Regression (change.Raise (following.change_of h s p number))) (answer.Raised (length (regressions h) + 1)) refl)

plain-begin : (h : List Entry) (lo hi : ℕ) → Plain (following.begin h lo hi)
plain-begin h lo hi = plain-within (Jobs ∷ Steps ∷ []) h (entry.Job (event.Begin lo hi)) _ (told-begun h lo hi)

plain-bisect : (h : List Entry) (lo hi : List ℕ) → Plain (following.bisect h lo hi)
plain-bisect h lo hi =
    let low : Option ℕ = number_of lo h in
    let high : Option ℕ = number_of hi h in
    plain-unless (following.bisect_refusal low high) _
    (told-first (refusal_if (is_none low) refusal.UnknownCommit
    ∷ refusal_if (is_none high) refusal.UnknownCommit
    ∷ refusal_if (not (nat_lt (unwrap_or low 0) (unwrap_or high 0))) refusal.BadRange ∷ [])
    (told-if (is_none low) _, (told-if (is_none high) _, (told-if (not (nat_lt (unwrap_or low 0) (unwrap_or high 0))) _, tt))))
    (plain-begin h (unwrap_or low 0) (unwrap_or high 0))

plain-answer : (h : List Entry) (number : ℕ) (commit : List ℕ) (status : ℕ) → Plain (following.answer_job h number commit status)
plain-answer h number commit status =
    plain-job h number (following.answer_to h number commit status) (λ b there.
    let at : Option ℕ = number_of commit h in
    plain-unless (following.answer_refusal h b at) _
    (told-first (refusal_if (is_none at) refusal.UnknownCommit
    ∷ refusal_if (not (is_open b.outcome)) (refusal.JobClosed (following.told_of h b))
    ∷ refusal_if (not (unwrap_or at 0 == following.asked_commit b)) (refusal.NotAsked (following.named_by h (following.asked_commit b))) ∷ [])
    (told-if (is_none at) _, (told-if (not (is_open b.outcome)) _, (told-if (not (unwrap_or at 0 == following.asked_commit b)) _, tt))))
    (plain-within (Steps ∷ []) h (entry.Job (event.Answer number (unwrap_or (asked_by b.outcome) 0) status)) _
    (told-said h number (event.Answer number (unwrap_or (asked_by b.outcome) 0) status) b refl there)))

plain-resume : (h : List Entry) (number : ℕ) → Plain (following.resume h number)
plain-resume h number =
    plain-job h number (λ b. unless (following.resume_refusal h b) (following.begin h b.low_commit b.high_commit)) (λ b there.
    plain-unless (following.resume_refusal h b) _
    (told-first (refusal_if (is_open b.outcome) (refusal.JobOpen (following.named_by h (following.asked_commit b)))
    ∷ refusal_if (following.is_found b.outcome) (refusal.JobClosed (following.told_of h b)) ∷ [])
    (told-if (is_open b.outcome) _, (told-if (following.is_found b.outcome) _, tt)))
    (plain-begin h b.low_commit b.high_commit))

-- ---- all of them

abbrev IsKind : Request → Outcome → Type 0
IsKind q o = is_none o.adds ≡ adds_none q o.answer

pub kinds_told : KindsAreTold
kinds_told version base h (request.Machine machine) o is = subst (IsKind (request.Machine machine)) (sym is) refl
kinds_told version base h (request.Commit machine number name) o is = subst Plain (sym is) (plain-commit h number name)
kinds_told version base h (request.Submit machine commit run samples ignored stated) o is =
    subst Plain (sym is) (plain-submit h machine commit run samples ignored stated)
kinds_told version base h (request.Retract machine run) o is = subst Plain (sym is) (plain-retract h run)
kinds_told version base h (request.Tune machine metric penalty given) o is = subst Plain (sym is) (plain-tune h metric penalty (unwrap_or given (length_of metric h)))
kinds_told version base h (request.Calibrate machine test metric factor) o is =
    let s : Series = record { test = test; metric = metric } in
    let n : ℕ = length (positions h s) in
    of-factor Plain (λ r. refl) (OfKnown (is_known s h) (OfMany (nat_lt n 3) n (IsCalibrated h s factor)))
    (of-known Plain (λ r. refl) (OfMany (nat_lt n 3) n (IsCalibrated h s factor))
    (of-many Plain (λ r. refl) (IsCalibrated h s factor)
    (λ o c. subst Plain (sym c.2) (plain-tune h metric (pos (factor * max 1 (c.0 * c.0))) (length_of metric h)))
    (nat_lt n 3) n) (is_known s h)) (is_factor factor) o is
kinds_told version base h (request.Segment machine test metric) o is =
    let s : Series = record { test = test; metric = metric } in
    let Comes : Outcome → Type 0 = IsPublishedFrom version base h s in
    let old : Option ℕ = later (length version) (last_publication s h) in
    of-known Plain (λ r. refl) (OfLatest old Comes)
    (of-latest Plain (λ r. refl) Comes
    (λ o c. subst Plain (sym c.3)
    (plain-within (Steps ∷ Cuts ∷ []) h (entry.Publish (publication s (length version) base c.0)) (segmented (length version) base (redone_since version base s) c.0) refl))
    old) (is_known s h) o is
kinds_told version base h (request.Changes machine test metric) o is =
    let s : Series = record { test = test; metric = metric } in
    let P : Outcome → Type 0 = IsKind (request.Changes machine test metric) in
    of-known P (λ r. refl) (OfPublished (last_publication s h) (TellsChanges h s))
    (of-published P (λ r. refl) (TellsChanges h s) (λ p o c. subst P (sym c.2) refl) (last_publication s h)) (is_known s h) o is
kinds_told version base h (request.Verify machine test metric) o is =
    let s : Series = record { test = test; metric = metric } in
    let P : Outcome → Type 0 = IsKind (request.Verify machine test metric) in
    of-known P (λ r. refl) (OfPublished (last_publication s h) (TellsCertificate h s))
    (of-published P (λ r. refl) (TellsCertificate h s) (λ p o c. subst P (sym c.2) refl) (last_publication s h)) (is_known s h) o is
kinds_told version base h (request.Regress machine test metric number) o is =
    let s : Series = record { test = test; metric = metric } in
    let Comes : Publication → Outcome → Type 0 = λ p raised. raised ≡ following.raise h s number p in
    of-known Plain (λ r. refl) (OfPublished (last_publication s h) Comes)
    (of-published Plain (λ r. refl) Comes (λ p o c. subst Plain (sym c) (plain-raise h s number p)) (last_publication s h)) (is_known s h) o is
kinds_told version base h (request.SetState machine number state) o is = subst Plain (sym is) (plain-state h number state)
kinds_told version base h (request.Bisect machine lo hi) o is = subst Plain (sym is) (plain-bisect h lo hi)
kinds_told version base h (request.Answer machine number commit status) o is = subst Plain (sym is) (plain-answer h number commit status)
kinds_told version base h (request.Resume machine number) o is = subst Plain (sym is) (plain-resume h number)
kinds_told version base h (request.Job machine number) o is = subst (IsKind (request.Job machine number)) (sym is) refl
kinds_told version base h (request.Runs machine) o is = subst (IsKind (request.Runs machine)) (sym is) refl
kinds_told version base h (request.Report machine json) o is = subst (IsKind (request.Report machine json)) (sym is.2) refl
