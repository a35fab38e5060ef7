-- The lines made of a state's regressions and bisections are those of its history.
use Rattle.std.{proofs.Common.{◌≡◌, ℕ, ◌+◌, suc, List, [], ◌∷◌, get_or, All, refl, ap, ◌∙◌}, specs.Prelude.IsSome}
use Rattle.std.proofs.lemmas.{List.Elements.{All-nil, All-cons, All-head, All-tail}, Option.slice_get-get_or}
use Rattle.bisect_core.specs.{Bisections.Bisection, declared.outcome.Outcome.Outcome as Standing}
use Rattle.bisect_core.specs.declared.outcome.Outcome.TheVariants as standing
use Rattle.follow_index.specs.Followed.{followed_from}
use Rattle.history_model.specs.{Allowed.Legal, Commits.{declarations, name_of}, Followed.{IsNamed, JobsAreNamed}, Jobs.jobs, Regressions.state_of}
use Rattle.history_model.specs.declared.{entries.Declaration.Declaration, entries.Entry.Entry, events.Raised.Raised}
use Rattle.report_lines.specs.NumberedLines.{HasEnds, HasNamed, HasNames, followed_line, told_at, told_line}
use Rattle.report_model.specs.declared.{items.JobLine.JobLine, items.RegressionLine.RegressionLine, told.Told.Told}
use Rattle.track_model.specs.{Following.told_by, Reports.{job_line, numbered, regression_line}}

-- ---- regressions
abbrev Ends : List Entry → Raised → Type 0
Ends h r = IsSome (name_of r.before h) × IsSome (name_of r.after h)

pub followed-ends : (h : List Entry) (n : ℕ) (rs : List Raised) → All (Ends h) rs → All (HasEnds (declarations h)) (followed_from h n rs)
followed-ends h n [] all = All-nil (HasEnds (declarations h))
followed-ends h n (r ∷ rs) all =
    All-cons (HasEnds (declarations h)) (record { raised = r; state = state_of n h }) (followed_from h (n + 1) rs) (All-head (Ends h) r rs all)
    (followed-ends h (n + 1) rs (All-tail (Ends h) r rs all))

pub followed-lines : (h : List Entry) (n : ℕ) (rs : List Raised) → numbered (followed_line (declarations h)) n (followed_from h n rs) ≡ numbered (regression_line h) n rs
followed-lines h n [] = refl
followed-lines h n (r ∷ rs) = ap (λ (more : List RegressionLine). regression_line h n r ∷ more) (followed-lines h (n + 1) rs)

-- ---- jobs
has-named : (h : List Entry) (b : Bisection) (o : Standing) → IsNamed h b o → HasNamed (declarations h) b o
has-named h b (standing.Asks place) named = named
has-named h b (standing.Found lo hi) named = named
has-named h b (standing.Undecided place status) named = named
has-named h b (standing.Faulted place) named = named

pub jobs-named : JobsAreNamed → (h : List Entry) → Legal h → All (HasNames (declarations h)) (jobs h)
jobs-named named h legal k d lt =
    let b : Bisection = get_or (jobs h) k d in
    has-named h b b.outcome (named h (suc k) b legal (slice_get-get_or (jobs h) k d lt))

told-same : (h : List Entry) (b : Bisection) (o : Standing) → told_at (declarations h) b o ≡ told_by h b o
told-same h b (standing.Asks place) = refl
told-same h b (standing.Found lo hi) = refl
told-same h b (standing.Undecided place status) = refl
told-same h b (standing.Faulted place) = refl

pub told-lines : (h : List Entry) (n : ℕ) (bs : List Bisection) → numbered (told_line (declarations h)) n bs ≡ numbered (job_line h) n bs
told-lines h n [] = refl
told-lines h n (b ∷ bs) =
    ap (λ (told : Told). let l : JobLine = record { job = n; range = b.range; questions = b.questions; outcome = told } in l ∷ numbered (told_line (declarations h)) (n + 1) bs) (told-same h b b.outcome)
    ∙ ap (λ (more : List JobLine). job_line h n b ∷ more) (told-lines h (n + 1) bs)

-- ---- lines by number, made of a state's commits and of what it has
module _ {X : Type 0} (h : List Entry) (ds : List Declaration) (commits : ds ≡ declarations h) (xs kept : List X) (same : xs ≡ kept) where
  pub has-names : (Named : List Declaration → X → Type 0) → All (Named (declarations h)) kept → All (Named ds) xs
  has-names Named all = rw (commits, same) all

  pub same-lines : {L : Type 0} (line : List Declaration → ℕ → X → L) {made lines : List L} → made ≡ numbered (line ds) 1 xs → numbered (line (declarations h)) 1 kept ≡ lines → made ≡ lines
  same-lines line is are = is ∙ rw (commits, same) are
