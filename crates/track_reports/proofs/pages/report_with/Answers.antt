use Rattle.std.proofs.{Common.{◌≡◌, List, length, refl, sym, subst, ◌∙◌}, lemmas.List.length-map}
use Rattle.history_model.specs.{declared.entries.Entry.Entry, declared.entries.Placed.Placed, Entries.entries_of, Jobs.jobs, Regressions.regressions}
use Rattle.report_lines.specs.NumberedLines.{HasEnds, HasNames, followed_line, told_line}
use Rattle.report_model.specs.declared.pages.Pages.{Pages}
use Rattle.request_model.specs.declared.replies.Answer.TheVariants as answer
use Rattle.track_model.specs.Reports.{IsReport, ReportComesTo}
use Rattle.machine_state.proofs.Told.{only-told}
use Rattle.track_reports.proofs.Reporting.{followed-ends, followed-lines, has-names, jobs-named, same-lines, told-lines}
use Rattle.track_reports.proofs.pages.report_with.Goals as goal

pub regression_lines-requires : goal.regression_lines-requires
regression_lines-requires c =
    let h = entries_of c.args.track.now.history in
    has-names h c.commits.result.now c.commits.ensures c.regressions.result.now _ c.regressions.ensures HasEnds (followed-ends h 1 (regressions h) (c.regressions_law.ensures.named h c.history_law.ensures.legal))

pub job_lines-requires : goal.job_lines-requires
job_lines-requires c =
    let h = entries_of c.args.track.now.history in
    has-names h c.commits-2.result.now c.commits-2.ensures c.jobs.result.now (jobs h) c.jobs.ensures HasNames (jobs-named c.jobs_law.ensures.named h c.history_law.ensures.legal)

pub returns : goal.returns
returns c =
    let h : List Entry = entries_of c.args.track.now.history in
    let machine = c.args.track.now.machine in
    let pages : Pages = record {
      machine = c.in_ok-machine.machine;
      step = c.len.result;
      json = c.args.json;
      series = c.args.series;
      regressions = c.in_ok-regressions.regressions;
      jobs = c.in_ok-jobs.jobs;
    } in
    let steps : c.len.result ≡ length h = c.len.ensures ∙ sym (length-map c.args.track.now.history (λ (p : Placed). p.entry)) in
    let is : IsReport h machine c.args.json pages = record {
      of_machine = c.in_ok-machine.ensures ∙ c.machine.ensures;
      at_step = steps;
      form = refl;
      of_series = c.requires;
      of_regressions = same-lines h c.commits.result.now c.commits.ensures c.regressions.result.now _ c.regressions.ensures followed_line c.in_ok-regressions.ensures (followed-lines h 1 (regressions h));
      of_jobs = same-lines h c.commits-2.result.now c.commits-2.ensures c.jobs.result.now (jobs h) c.jobs.ensures told_line c.in_ok-jobs.ensures (told-lines h 1 (jobs h));
    } in
    only-told (ReportComesTo h machine c.args.json) c.args.track.now (answer.Report c.in_ok-pages.pages) c.told.result
    (c.in_ok-pages.pages, subst (IsReport h machine c.args.json) (sym c.in_ok-pages.ensures) is, refl) c.told.ensures
