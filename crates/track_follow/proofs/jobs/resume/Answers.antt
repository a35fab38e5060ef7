use Rattle.std.{proofs.Common.{◌≡◌, ℕ, ◌<◌, List, sym, ap, subst, ◌∙◌, Some, arith}, specs.Prelude.{IsSome, option_copied}}
use Rattle.bisect_core.specs.Bisections.{Bisection}
use Rattle.history_model.specs.{declared.entries.Entry.Entry, Commits.name_of, Entries.entries_of, Jobs.{jobs, job_in}}
use Rattle.track_follow.proofs.jobs.resume.Goals as goal

pub begin-requires : goal.begin-requires
begin-requires c =
    let h : List Entry = entries_of c.args.track.now.history in
    let one : Bisection = c.in-Some.job.now in
    let there : job_in c.args.number (jobs h) ≡ Some one = ap (job_in c.args.number) (sym c.jobs.ensures) ∙ sym c.get.ensures ∙ ap option_copied c.in-Some.is in
    let ends = c.jobs_law.ensures.ends h c.args.number one c.history_law.ensures.legal there in
    let rising : one.low_commit < one.high_commit = ends.2 in (
      subst (λ (n : ℕ). IsSome (name_of n h)) (sym c.low_commit-lo.ensures.told) ends.0,
      subst (λ (n : ℕ). IsSome (name_of n h)) (sym c.high_commit-hi.ensures) ends.1,
      omega (arith, rising, c.low_commit-lo.ensures.told, c.high_commit-hi.ensures),
    )
