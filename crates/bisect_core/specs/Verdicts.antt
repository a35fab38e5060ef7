-- No public contract cites this. What a status says of its place, as a case, and where an answer leads.
use Rattle.std.specs.Prelude.{ℕ, ◌+◌, if◌then◌else◌, List, Option, Some, None}
use Rattle.bisect_core.specs.declared.progress.{Verdict.Verdict, Verdict.TheVariants.{Good, Bad, Untestable}, Progress.Progress}
use Rattle.bisect_core.specs.{declared.outcome.Outcome.Outcome, declared.outcome.Outcome.TheVariants.{Undecided, Faulted}, Turns.{is_good, is_untestable}}
use Rattle.bisect_core.specs.Bisections.{Bisection, between, is_open}

abbrev pub verdict_of : ℕ → Verdict
verdict_of status = if is_good status then Good else (if is_untestable status then Untestable else Bad)

-- the place, which has this commit, is good
abbrev pub after_good : Progress → ℕ → ℕ → Progress
after_good p place commit = record p { low = place; low_commit = commit; questions = p.questions + 1; outcome = between place p.high }

-- the place is bad
abbrev pub after_bad : Progress → ℕ → ℕ → Progress
after_bad p place commit = record p { high = place; high_commit = commit; questions = p.questions + 1; outcome = between p.low place }

-- nothing can be said of the place
abbrev pub after_untestable : Progress → ℕ → ℕ → ℕ → Progress
after_untestable p place status commit = record p { end_commit = Some commit; outcome = Undecided place status }

-- no test of the place could be had
abbrev pub after_giving_up : Progress → ℕ → ℕ → Progress
after_giving_up p place commit = record p { end_commit = Some commit; outcome = Faulted place }

abbrev pub after_verdict : Progress → ℕ → ℕ → ℕ → Verdict → Progress
after_verdict p place status commit Good = after_good p place commit
after_verdict p place status commit Bad = after_bad p place commit
after_verdict p place status commit Untestable = after_untestable p place status commit

-- what is known after the status of the test of a place, which has this commit
abbrev pub after_status : Progress → ℕ → ℕ → ℕ → Progress
after_status p place status commit = after_verdict p place status commit (verdict_of status)

-- a list, if it is kept, with where the bisection of it stands
abbrev pub seen : Option (List ℕ) → Progress → Bisection
seen commits p = record {
  commits = commits;
  range = p.range;
  low = p.low;
  high = p.high;
  questions = p.questions;
  outcome = p.outcome;
  low_commit = p.low_commit;
  high_commit = p.high_commit;
  end_commit = p.end_commit;
}

-- the list while it is open
abbrev pub kept_by : Option (List ℕ) → Outcome → Option (List ℕ)
kept_by commits outcome = if is_open outcome then commits else None
