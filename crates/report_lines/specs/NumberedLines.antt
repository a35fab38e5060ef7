-- What a report says of regressions and bisections, their commits by the names that are declared.
use Rattle.std.specs.Prelude.{ℕ, List, [], unwrap_or, IsSome}
use Rattle.bisect_core.specs.{Bisections.Bisection, declared.outcome.Outcome.Outcome, declared.outcome.Outcome.TheVariants.{Asks, Found, Undecided, Faulted}}
use Rattle.follow_index.specs.declared.regressions.Followed.{Followed}
use Rattle.history_model.specs.{Commits.name_in, declared.entries.Declaration.Declaration}
use Rattle.report_model.specs.declared.{items.JobLine.JobLine, items.RegressionLine.RegressionLine, told.Told.Told}
use Rattle.track_model.specs.Following.{asked_commit, told_named}

-- the name of the commit of a number
abbrev pub name_at : List Declaration → ℕ → List ℕ
name_at commits number = unwrap_or (name_in number commits) []

-- the commit of a number is declared
abbrev pub IsDeclared : List Declaration → ℕ → Type 0
IsDeclared commits number = IsSome (name_in number commits)

-- ---- regressions

-- both commits of a regression are declared
abbrev pub HasEnds : List Declaration → Followed → Type 0
HasEnds commits r = IsDeclared commits r.raised.before × IsDeclared commits r.raised.after

abbrev pub followed_line : List Declaration → ℕ → Followed → RegressionLine
followed_line commits number r = record {
  number = number;
  test = r.raised.test;
  metric = r.raised.metric;
  before = name_at commits r.raised.before;
  after = name_at commits r.raised.after;
  state = r.state;
}

-- ---- bisections

-- where a bisection stands, its commits by name
abbrev pub told_at : List Declaration → Bisection → Outcome → Told
told_at commits b o = told_named (name_at commits) b o

abbrev pub told_in : List Declaration → Bisection → Told
told_in commits b = told_at commits b b.outcome

-- the commits that are told of it are declared, and an open one has its list
abbrev pub HasNamed : List Declaration → Bisection → Outcome → Type 0
HasNamed commits b (Asks place) = IsSome b.commits × IsDeclared commits (asked_commit b)
HasNamed commits b (Found lo hi) = IsDeclared commits b.low_commit × IsDeclared commits b.high_commit
HasNamed commits b (Undecided place status) = IsSome b.end_commit × IsDeclared commits (unwrap_or b.end_commit 0)
HasNamed commits b (Faulted place) = IsSome b.end_commit × IsDeclared commits (unwrap_or b.end_commit 0)

abbrev pub HasNames : List Declaration → Bisection → Type 0
HasNames commits b = HasNamed commits b b.outcome

abbrev pub told_line : List Declaration → ℕ → Bisection → JobLine
told_line commits number b = record { job = number; range = b.range; questions = b.questions; outcome = told_in commits b }
