use Rattle.std.proofs.{Common.{◌≡◌, List, ap, refl, subst, arith}, lemmas.Result.IfOk-weaker, lemmas.Grind.common_steps}
use Rattle.history_model.specs.{declared.entries.Entry.Entry, Entries.entries_of, Publications.last_publication, Runs.Series}
use Rattle.publication_index.specs.Kept.{kept}
use Rattle.series_index.specs.Seen.{seen}
use Rattle.report_lines.specs.SeriesLines.{AreLines}
use Rattle.report_model.specs.declared.items.SeriesLine.{SeriesLine}
use Rattle.track_model.specs.{Reports.AreSeriesLines, Tracks.Track}
use Rattle.machine_state.{specs.State.{IsKept, IsTracked}, proofs.Reporting.series-lines, proofs.OneMore.stays}
use Rattle.machine_state.proofs.state.MachineState.series_lines.Goals as goal

pub invariant_of-self : goal.invariant_of-self
invariant_of-self c = stays _ _ _ _ _ _ _ _ _ _ _ _ _ c.self.invariant c.series_lines.ensures.same (λ metric. refl) (λ s. refl) refl

pub returns-clause-lines : goal.returns-clause-lines
returns-clause-lines c =
    let h : List Entry = entries_of c.args.self.now.history in
    let h_is : entries_of c.self.inside.history.items ≡ h = ap (λ (t : Track). entries_of t.history) c.self.view_is in
    let tracked : (s : Series) → IsTracked h s (seen s c.self.inside.series) = λ s. subst (λ (before : List Entry). IsTracked before s (seen s c.self.inside.series)) h_is (c.self.invariant.series_are s) in
    let kept_are : (s : Series) → IsKept h (last_publication s h) (kept s c.self.inside.published) = grind (arith, common_steps) in
    IfOk-weaker c.series_lines.result (λ (lines : List SeriesLine). AreLines c.self.inside.series c.self.inside.published lines) (λ (lines : List SeriesLine). AreSeriesLines h lines)
    (series-lines c.publication_law.ensures.last_stands h c.history_law.ensures.legal c.self.inside.series c.self.inside.published tracked kept_are) c.series_lines.ensures.lines
