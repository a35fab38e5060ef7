use Rattle.std.proofs.Common.{◌∙◌, refl}
use Rattle.follow_index.specs.Numbered.{followed_in}
use Rattle.report_lines.{specs.NumberedLines.followed_line, proofs.Numbered.numbered-next}
use Rattle.report_lines.proofs.regressions.regression_lines.Goals as goal

pub loop-i-preserved : goal.loop-i-preserved
loop-i-preserved c =
    c.in_ok-push.ensures.ok
    ∙ numbered-next (followed_line c.args.commits.now) c.args.regressions.now c.loop-i.i c.in-Some.followed.now (λ k. followed_in k c.args.regressions.now) refl c.in-Some.ensures
    c.loop-i.lines c.in_ok-line.field-0 c.loop-i.invariant c.in_ok-line.ensures
