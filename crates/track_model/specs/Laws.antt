-- What holds of the forms on every history: where each comes to a limit, what it adds where none is passed, and that a
-- request comes to one outcome.
use Rattle.std.specs.Prelude.{◌≡◌, ◌≤◌, ◌<◌, ◌↔◌, ◌+◌, ℕ, ℤ, true, List, [], ◌∷◌, ◌++◌, length, IsSome, Some, None}
use Rattle.metric_table.specs.Limits.{most}
use Rattle.metric_table.specs.declared.limits.Limit.TheVariants as limit
use Rattle.history_model.specs.{declared.entries.Entry.Entry, Allowed.{Allowed, KeepsLimits, Legal, MayFollow}, Commits.{declarations, name_of}}
use Rattle.history_model.specs.declared.entries.Entry.TheVariants as entry
use Rattle.history_model.specs.declared.events.JobEvent.TheVariants as job_event
use Rattle.history_model.specs.declared.events.RegressionEvent.TheVariants as event
use Rattle.regression_state.specs.declared.states.State.{State}
use Rattle.history_model.specs.{Jobs.{jobs, asked, open_count}, Runs.{Series, accepted, is_known, retracted}, declared.publication.Publication.Publication}
use Rattle.request_model.specs.declared.replies.Answer.TheVariants as answer
use Rattle.request_model.specs.declared.replies.Refusal.TheVariants as refusal
use Rattle.track_model.specs.Following as following
use Rattle.track_model.specs.Forms as forms
use Rattle.track_model.specs.{Outcomes.{Outcome, refuses, adds_within}, Publishing.publish, Tracks.ComesTo}
use Rattle.request_model.specs.declared.{requests.Request.Request, replies.Answer.Answer}
use Rattle.history_model.specs.Publications.{cut_count, last_publication, MayPublish}

-- ---- commit

-- nothing is refused of the pair, and there is room for a commit and a step
pub record CommitFits (h : List Entry) (number : ℕ) (name : List ℕ) : Type 0 where
  pub free : forms.commit_refusal (declarations h) number name ≡ None
  pub commits : length (declarations h) < most limit.Commits
  pub steps : length h < most limit.Steps

-- a free pair is refused where there are as many commits as there may be
abbrev pub CommitsAreFull : Type 0
CommitsAreFull =
    (h : List Entry) (number : ℕ) (name : List ℕ) → forms.commit_refusal (declarations h) number name ≡ None
    → most limit.Commits ≤ length (declarations h) → forms.commit h number name ≡ refuses (refusal.Full limit.Commits)

-- else where there are as many steps as there may be
abbrev pub CommitStepsAreFull : Type 0
CommitStepsAreFull =
    (h : List Entry) (number : ℕ) (name : List ℕ) → forms.commit_refusal (declarations h) number name ≡ None
    → length (declarations h) < most limit.Commits → most limit.Steps ≤ length h → forms.commit h number name ≡ refuses (refusal.Full limit.Steps)

-- else it is added
abbrev pub CommitIsAdded : Type 0
CommitIsAdded =
    (h : List Entry) (number : ℕ) (name : List ℕ) → CommitFits h number name
    → forms.commit h number name ≡ record { answer = answer.Commit number name; adds = Some (entry.Commit number name) }

-- and may follow a history that keeps its limits
abbrev pub CommitIsAllowed : Type 0
CommitIsAllowed = (h : List Entry) (number : ℕ) (name : List ℕ) → KeepsLimits h → CommitFits h number name → Allowed h (entry.Commit number name)

-- ---- retract

-- the retraction of a live run is refused where there are as many steps as there may be
abbrev pub RetractStepsAreFull : Type 0
RetractStepsAreFull =
    (h : List Entry) (run : List ℕ) → forms.retract_refusal h run ≡ None → most limit.Steps ≤ length h → forms.retract h run ≡ refuses (refusal.Full limit.Steps)

-- else it is added
abbrev pub RetractIsAdded : Type 0
RetractIsAdded =
    (h : List Entry) (run : List ℕ) → forms.retract_refusal h run ≡ None → length h < most limit.Steps
    → forms.retract h run ≡ record { answer = answer.Retracted run; adds = Some (entry.Retract run) }

-- and may follow a history that keeps its limits
abbrev pub RetractIsAllowed : Type 0
RetractIsAllowed =
    (h : List Entry) (run : List ℕ) → KeepsLimits h → IsSome (accepted run h) → retracted run h ≡ None → length h < most limit.Steps → Allowed h (entry.Retract run)

-- ---- tune

-- a setting in range is refused where there are as many steps as there may be
abbrev pub TuneStepsAreFull : Type 0
TuneStepsAreFull =
    (h : List Entry) (metric : List ℕ) (penalty : ℤ) (len : ℕ) → forms.tune_refusal metric penalty len ≡ None → most limit.Steps ≤ length h
    → forms.tune h metric penalty len ≡ refuses (refusal.Full limit.Steps)

-- else it is set
abbrev pub TuneIsAdded : Type 0
TuneIsAdded =
    (h : List Entry) (metric : List ℕ) (penalty : ℤ) (len : ℕ) → forms.tune_refusal metric penalty len ≡ None → length h < most limit.Steps
    → forms.tune h metric penalty len ≡ record { answer = answer.Tuned metric penalty len; adds = Some (entry.Tune metric penalty len) }

-- nothing is refused of it exactly where it may follow
abbrev pub TuneMayFollow : Type 0
TuneMayFollow = (h : List Entry) (metric : List ℕ) (penalty : ℤ) (len : ℕ) → (forms.tune_refusal metric penalty len ≡ None) ↔ MayFollow h (entry.Tune metric penalty len)

-- ---- publications

-- there is room for a step and for the cuts
pub record PublicationFits (h : List Entry) (p : Publication) : Type 0 where
  pub steps : length h < most limit.Steps
  pub cuts : cut_count h + length p.cuts ≤ most limit.Cuts

-- a publication is refused where there are as many steps as there may be
abbrev pub PublishStepsAreFull : Type 0
PublishStepsAreFull =
    (h : List Entry) (p : Publication) (told : Answer) → most limit.Steps ≤ length h → publish h p told ≡ refuses (refusal.Full limit.Steps)

-- else where its cuts would be too many
abbrev pub PublishCutsAreFull : Type 0
PublishCutsAreFull =
    (h : List Entry) (p : Publication) (told : Answer) → length h < most limit.Steps → most limit.Cuts < cut_count h + length p.cuts
    → publish h p told ≡ refuses (refusal.Full limit.Cuts)

-- else it is added
abbrev pub PublishIsAdded : Type 0
PublishIsAdded =
    (h : List Entry) (p : Publication) (told : Answer) → PublicationFits h p → publish h p told ≡ record { answer = told; adds = Some (entry.Publish p) }

-- and may follow a history that keeps its limits and in which it stands
abbrev pub PublishIsAllowed : Type 0
PublishIsAllowed = (h : List Entry) (p : Publication) → KeepsLimits h → MayPublish h p → PublicationFits h p → Allowed h (entry.Publish p)

-- ---- forms that add within steps alone

-- what is added is refused where there are as many steps as there may be
abbrev pub StepsAreFull : Type 0
StepsAreFull = (h : List Entry) (e : Entry) (told : Answer) → most limit.Steps ≤ length h → adds_within (limit.Steps ∷ []) h e told ≡ refuses (refusal.Full limit.Steps)

-- else it is added
abbrev pub StepIsAdded : Type 0
StepIsAdded = (h : List Entry) (e : Entry) (told : Answer) → length h < most limit.Steps → adds_within (limit.Steps ∷ []) h e told ≡ record { answer = told; adds = Some e }

-- ---- regressions

-- a regression that is there, in a state from which it may move
abbrev pub MoveIsAllowed : Type 0
MoveIsAllowed =
    (h : List Entry) (number : ℕ) (state : State) → KeepsLimits h → following.move_refusal h number state ≡ None → length h < most limit.Steps
    → Allowed h (entry.Regression (event.Move number state))

-- a change that the last publication of a known series has stands between declared commits
abbrev pub RaiseIsAllowed : Type 0
RaiseIsAllowed =
    (h : List Entry) (s : Series) (p : Publication) (change : ℕ) → Legal h → KeepsLimits h → is_known s h ≡ true → last_publication s h ≡ Some p
    → following.raise_refusal p change ≡ None → length h < most limit.Steps
    → Allowed h (entry.Regression (event.Raise (following.change_of h s p change)))

-- ---- jobs

-- a job is refused where more would be open than may be
abbrev pub JobsAreFull : Type 0
JobsAreFull =
    (h : List Entry) (lo hi : ℕ) → most limit.Jobs < open_count (jobs (h ++ entry.Job (job_event.Begin lo hi) ∷ []))
    → following.begin h lo hi ≡ refuses (refusal.Full limit.Jobs)

-- else where there are as many steps as there may be
abbrev pub BeginStepsAreFull : Type 0
BeginStepsAreFull =
    (h : List Entry) (lo hi : ℕ) → open_count (jobs (h ++ entry.Job (job_event.Begin lo hi) ∷ [])) ≤ most limit.Jobs → most limit.Steps ≤ length h
    → following.begin h lo hi ≡ refuses (refusal.Full limit.Steps)

-- else it is begun
abbrev pub BeginIsAdded : Type 0
BeginIsAdded =
    (h : List Entry) (lo hi : ℕ) → open_count (jobs (h ++ entry.Job (job_event.Begin lo hi) ∷ [])) ≤ most limit.Jobs → length h < most limit.Steps
    → following.begin h lo hi ≡ record {
      answer = following.job_answer (h ++ entry.Job (job_event.Begin lo hi) ∷ []) (length (jobs h) + 1);
      adds = Some (entry.Job (job_event.Begin lo hi));
    }

-- and may follow a history that keeps its limits and declares both ends, in their order
abbrev pub BeginIsAllowed : Type 0
BeginIsAllowed =
    (h : List Entry) (lo hi : ℕ) → KeepsLimits h → IsSome (name_of lo h) → IsSome (name_of hi h) → lo < hi → length h < most limit.Steps
    → open_count (jobs (h ++ entry.Job (job_event.Begin lo hi) ∷ [])) ≤ most limit.Jobs → Allowed h (entry.Job (job_event.Begin lo hi))

-- the place that a job asks may be said to have been tested
abbrev pub SayIsAllowed : Type 0
SayIsAllowed =
    (h : List Entry) (number place status : ℕ) → KeepsLimits h → asked number h ≡ Some place → length h < most limit.Steps
    → Allowed h (entry.Job (job_event.Answer number place status))

-- and may be given up
abbrev pub GiveUpIsAllowed : Type 0
GiveUpIsAllowed =
    (h : List Entry) (number place : ℕ) → KeepsLimits h → asked number h ≡ Some place → length h < most limit.Steps
    → Allowed h (entry.Job (job_event.GiveUp number place))

-- ---- all forms

-- a request comes to one outcome, a segmentation from one base
abbrev pub OneOutcome : Type 0
OneOutcome = (h : List Entry) (base : ℕ) (q : Request) (one other : Outcome) → ComesTo h base q one → ComesTo h base q other → one ≡ other
