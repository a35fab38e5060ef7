use Rattle.std.proofs.Common.{◌∙◌, refl}
use Rattle.history_model.specs.Jobs.{job_in}
use Rattle.report_lines.{specs.NumberedLines.told_line, proofs.Numbered.numbered-next}
use Rattle.report_lines.proofs.jobs.job_lines.Goals as goal

pub loop-i-preserved : goal.loop-i-preserved
loop-i-preserved c =
    c.in_ok-push.ensures.ok
    ∙ numbered-next (told_line c.args.commits.now) c.args.jobs.now c.loop-i.i c.in-Some.job.now (λ k. job_in k c.args.jobs.now) refl c.in-Some.ensures c.loop-i.lines c.in_ok-line.field-0 c.loop-i.invariant c.in_ok-line.ensures
