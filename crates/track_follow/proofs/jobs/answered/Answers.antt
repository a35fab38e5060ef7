use Rattle.std.{proofs.Common.{◌≡◌, ℕ, ◌+◌, List, length, sym, ap, subst, ◌∙◌, Some}, specs.Prelude.option_copied}
use Rattle.bisect_core.specs.{Bisections.{Bisection, IsRecorded}, Turns.tested}
use Rattle.history_model.specs.{declared.entries.Entry.Entry, Entries.entries_of, Jobs.{jobs, job_in}}
use Rattle.history_model.specs.declared.entries.Entry.TheVariants as entry
use Rattle.history_model.specs.declared.events.JobEvent.TheVariants as job_event
use Rattle.track_follow.proofs.Bisecting.{is-said, job-put, takes-answer}
use Rattle.track_follow.proofs.jobs.answered.Goals as goal

pub returns : goal.returns
returns c =
    let h : List Entry = entries_of c.args.track.now.history in
    let number : ℕ = c.args.number in
    let place : ℕ = c.args.place in
    let status : ℕ = c.args.status in
    let one : Bisection = c.in_ok-job.job in
    let after : Bisection = c.answer.new.self in
    let there : job_in number (jobs h) ≡ Some one =
    ap (job_in number) (sym c.jobs.ensures) ∙ sym c.get.ensures ∙ ap option_copied c.in-Some.is ∙ ap Some (sym c.in_ok-job.ensures) in
    let recorded : IsRecorded (tested place status) one after = c.answer.ensures.done (c.answer.ensures.told ∙ takes-answer h number place one there c.requires) in
    subst (λ (js : List Bisection). job_in number js ≡ Some after)
    (sym (c.jobs_law.ensures.go_on h (entry.Job (job_event.Answer number place status)) number (tested place status) one after (is-said number place status (length h + 1)) there recorded))
    (job-put (jobs h) number one after there)
