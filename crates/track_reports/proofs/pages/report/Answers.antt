use Rattle.std.{proofs.Common.{sym, subst}, specs.Prelude.IfOk}
use Rattle.history_model.specs.Entries.{entries_of}
use Rattle.request_model.specs.declared.replies.Reply.{Reply}
use Rattle.track_model.specs.{Outcomes.Outcome, Reports.{AreSeriesLines, ReportComesTo}, Tracks.{IsTold, Track}}
use Rattle.track_reports.proofs.pages.report.Goals as goal

pub report_with-requires : goal.report_with-requires
report_with-requires c = subst (λ (t : Track). AreSeriesLines (entries_of t.history) c.in_ok-series.series) (sym c.series_lines.ensures.same) c.in_ok-series.ensures.lines

pub returns-clause-step : goal.returns-clause-step
returns-clause-step c =
    subst (λ (t : Track). IfOk c.report_with.result (λ (reply : Reply). (o : Outcome) × ReportComesTo (entries_of t.history) t.machine c.args.json o × IsTold t o reply))
    c.series_lines.ensures.same c.report_with.ensures
