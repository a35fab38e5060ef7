-- What the forms about regressions and bisections come to on the history of their machine.
use Rattle.std.specs.Prelude.{◌≡◌, ℕ, ◌+◌, ◌-◌, Bool, true, false, not, nat_lt, ◌==◌, List, [], ◌∷◌, ◌++◌, length, slice_index, is_none, unwrap_or, Option, Some, None}
use Rattle.metric_table.specs.declared.limits.Limit.TheVariants.{Jobs, Steps}
use Rattle.segment_model.specs.Limits.{commits_of}
use Rattle.bisect_core.specs.{Bisections.{Bisection, is_open, asked_by}, declared.outcome.Outcome.Outcome as Standing}
use Rattle.bisect_core.specs.declared.outcome.Outcome.TheVariants.{Asks, Found, Undecided, Faulted}
use Rattle.regression_state.specs.{Moves.is_move, declared.states.State.State}
use Rattle.report_model.specs.declared.told.Told.{Told}
use Rattle.report_model.specs.declared.told.Told.TheVariants as told_as
use Rattle.history_model.specs.declared.{entries.Entry.Entry, events.JobEvent.JobEvent, events.Raised.Raised, publication.Publication.Publication}
use Rattle.history_model.specs.declared.entries.Entry.TheVariants as entry
use Rattle.history_model.specs.declared.events.JobEvent.TheVariants as job_event
use Rattle.history_model.specs.declared.events.RegressionEvent.TheVariants as event
use Rattle.history_model.specs.{Commits.{number_of, name_of}, Jobs.{jobs, job_in}, Positions.positions, Publications.{last_publication, spoken_of}}
use Rattle.history_model.specs.{Regressions.{regressions, state_of, is_number}, Runs.{Series, is_known}}
use Rattle.request_model.specs.declared.replies.Answer.{Answer}
use Rattle.request_model.specs.declared.replies.Answer.TheVariants as answer
use Rattle.request_model.specs.declared.replies.Refusal.TheVariants as refusal
use Rattle.track_model.specs.{Outcomes.{Outcome, tells, refuses, refusal_if, first, unless, adds_within}, Publishing.{OfKnown, OfPublished}}

-- ---- regress M TEST METRIC CHANGE

-- the change of this number, from 1, that a publication shows of a series: between the commits beside its cut, in the
-- positions of the version that it speaks of
abbrev pub change_of : List Entry → Series → Publication → ℕ → Raised
change_of h s p change =
    let cut : ℕ = slice_index p.cuts (change - 1) in
    let commits : List ℕ = commits_of (positions (spoken_of h p) s) in
    record { test = s.test; metric = s.metric; before = slice_index commits (cut - 1); after = slice_index commits cut }

abbrev pub raise_refusal : Publication → ℕ → Option Answer
raise_refusal p change = refusal_if (not (is_number (length p.cuts) change)) (refusal.NoSuchChange (length p.cuts))

abbrev pub raise : List Entry → Series → ℕ → Publication → Outcome
raise h s change p =
    unless (raise_refusal p change)
    (adds_within (Steps ∷ []) h (entry.Regression (event.Raise (change_of h s p change))) (answer.Raised (length (regressions h) + 1)))

-- a change of the last publication is raised, as the regression of the next number
abbrev pub RegressComesTo : List Entry → Series → ℕ → Outcome → Type 0
RegressComesTo h s change o = OfKnown (is_known s h) (OfPublished (last_publication s h) (λ p raised. raised ≡ raise h s change p)) o

-- ---- state M REGRESSION STATE

abbrev pub move_refusal : List Entry → ℕ → State → Option Answer
move_refusal h number state = first
    (refusal_if (not (is_number (length (regressions h)) number)) refusal.UnknownRegression
    ∷ refusal_if (not (is_move (state_of number h) state)) (refusal.IllegalMove (state_of number h) state)
    ∷ [])

abbrev pub set_state : List Entry → ℕ → State → Outcome
set_state h number state =
    unless (move_refusal h number state)
    (adds_within (Steps ∷ []) h (entry.Regression (event.Move number state)) (answer.Moved number (state_of number h) state))

-- ---- what is told of a job

-- the name of the commit of this number
abbrev pub named_by : List Entry → ℕ → List ℕ
named_by h number = unwrap_or (name_of number h) []

-- the commit that an open one asks
abbrev pub asked_commit : Bisection → ℕ
asked_commit b = slice_index (unwrap_or b.commits []) (unwrap_or (asked_by b.outcome) 0)

-- where a bisection stands, with its commits by these names
abbrev pub told_named : (ℕ → List ℕ) → Bisection → Standing → Told
told_named name b (Asks place) = told_as.Asks (name (asked_commit b))
told_named name b (Found lo hi) = told_as.Found (name b.low_commit) (name b.high_commit)
told_named name b (Undecided place status) = told_as.Undecided (name (unwrap_or b.end_commit 0)) status
told_named name b (Faulted place) = told_as.Faulted (name (unwrap_or b.end_commit 0))

abbrev pub told_by : List Entry → Bisection → Standing → Told
told_by h b o = told_named (named_by h) b o

abbrev pub told_of : List Entry → Bisection → Told
told_of h b = told_by h b b.outcome

-- what is told of the job of a number, if it is there
abbrev pub told_if : List Entry → ℕ → Option Bisection → Answer
told_if h number None = answer.Refused refusal.UnknownJob
told_if h number (Some b) = answer.Job number b.range b.questions (told_of h b)

abbrev pub job_answer : List Entry → ℕ → Answer
job_answer h number = told_if h number (job_in number (jobs h))

-- ---- job M JOB

abbrev pub job : List Entry → ℕ → Outcome
job h number = tells (job_answer h number)

-- ---- bisect M LO HI

-- a job is begun over these numbers, and told of
abbrev pub begin : List Entry → ℕ → ℕ → Outcome
begin h lo hi =
    let e : Entry = entry.Job (job_event.Begin lo hi) in
    adds_within (Jobs ∷ Steps ∷ []) h e (job_answer (h ++ e ∷ []) (length (jobs h) + 1))

-- by the numbers of the two commits, where they are declared
abbrev pub bisect_refusal : Option ℕ → Option ℕ → Option Answer
bisect_refusal lo hi = first
    (refusal_if (is_none lo) refusal.UnknownCommit
    ∷ refusal_if (is_none hi) refusal.UnknownCommit
    ∷ refusal_if (not (nat_lt (unwrap_or lo 0) (unwrap_or hi 0))) refusal.BadRange
    ∷ [])

abbrev pub bisect : List Entry → List ℕ → List ℕ → Outcome
bisect h lo hi =
    unless (bisect_refusal (number_of lo h) (number_of hi h))
    (begin h (unwrap_or (number_of lo h) 0) (unwrap_or (number_of hi h) 0))

-- ---- the forms of a job that is there

abbrev pub of_job : List Entry → ℕ → (Bisection → Outcome) → Outcome
of_job h number told = with_job (job_in number (jobs h))
  where
    with_job : Option Bisection → Outcome
    with_job None = refuses refusal.UnknownJob
    with_job (Some b) = told b

-- ---- answer M JOB COMMIT STATUS

-- by the number of the commit, where it is declared
abbrev pub answer_refusal : List Entry → Bisection → Option ℕ → Option Answer
answer_refusal h b commit = first
    (refusal_if (is_none commit) refusal.UnknownCommit
    ∷ refusal_if (not (is_open b.outcome)) (refusal.JobClosed (told_of h b))
    ∷ refusal_if (not (unwrap_or commit 0 == asked_commit b)) (refusal.NotAsked (named_by h (asked_commit b)))
    ∷ [])

-- something is said of the job of a number, which is told of then
abbrev pub say : List Entry → ℕ → JobEvent → Outcome
say h number said =
    let e : Entry = entry.Job said in
    adds_within (Steps ∷ []) h e (job_answer (h ++ e ∷ []) number)

-- the place that the job asks was tested
abbrev pub answer_to : List Entry → ℕ → List ℕ → ℕ → Bisection → Outcome
answer_to h number commit status b =
    unless (answer_refusal h b (number_of commit h)) (say h number (job_event.Answer number (unwrap_or (asked_by b.outcome) 0) status))

abbrev pub answer_job : List Entry → ℕ → List ℕ → ℕ → Outcome
answer_job h number commit status = of_job h number (answer_to h number commit status)

-- ---- resume M JOB

abbrev pub is_found : Standing → Bool
is_found (Found lo hi) = true
is_found o = false

abbrev pub resume_refusal : List Entry → Bisection → Option Answer
resume_refusal h b = first
    (refusal_if (is_open b.outcome) (refusal.JobOpen (named_by h (asked_commit b)))
    ∷ refusal_if (is_found b.outcome) (refusal.JobClosed (told_of h b))
    ∷ [])

-- a job is begun over what the closed one had left
abbrev pub resume : List Entry → ℕ → Outcome
resume h number = of_job h number (λ b. unless (resume_refusal h b) (begin h b.low_commit b.high_commit))
