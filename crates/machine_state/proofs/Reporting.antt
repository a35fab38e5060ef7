-- The lines made from a state's series are those of its history.
use Rattle.std.proofs.{Common.{◌≡◌, ℕ, ℤ, List, length, sym, ap, ◌∙◌, Option, Some, arith}, lemmas.List.Elements.All-weaker, lemmas.Grind.common_steps}
use Rattle.segment_model.specs.Segments.{Position, values_of}
use Rattle.segment_cost.specs.declared.done.Done.{Done}
use Rattle.history_model.specs.{Allowed.Legal, Laws.LastStands, Positions.positions, Publications.{last_publication, published}, Runs.Series}
use Rattle.history_model.specs.declared.{entries.Entry.Entry, publication.Publication.Publication}
use Rattle.publication_index.specs.Kept.{kept}
use Rattle.report_lines.specs.SeriesLines.{AreLines, IsLine, IsOfKept}
use Rattle.report_model.specs.declared.items.SeriesLine.{SeriesLine}
use Rattle.series_index.specs.Seen.{seen}
use Rattle.track_model.specs.Reports.{AreSeriesLines, IsOfLast, IsSeriesLine, series_in}
use Rattle.machine_state.specs.{Indexes.Kept, Made.Segmentations, State.{IsKept, IsTracked}}

-- ---- series
last-of : (h : List Entry) (s : Series) (last : Option Publication) (done : Option Done) (changes : Option ℕ) (centre : Option ℤ) → IsKept h last done
    → ((p : Publication) → last ≡ Some p → published p ≡ s) → IsOfKept done changes centre → IsOfLast h s last changes centre
last-of h s last done changes centre kept_is is_of x8 = grind (arith, common_steps)

pub series-lines : LastStands → (h : List Entry) → Legal h → (tests : Kept) (done : Segmentations) → ((s : Series) → IsTracked h s (seen s tests))
    → ((s : Series) → IsKept h (last_publication s h) (kept s done)) → (lines : List SeriesLine) → AreLines tests done lines → AreSeriesLines h lines
series-lines stands h legal tests done tracked kept_are lines are = record {
  each = All-weaker (IsLine tests done) (IsSeriesLine h) (λ line is. record {
    samples = is.samples ∙ ap (λ (ps : List Position). length (values_of ps)) (tracked (series_in line)).points;
    positions = is.positions ∙ ap (λ (ps : List Position). length ps) (tracked (series_in line)).points;
    last = grind (arith, common_steps, last-of);
  }) lines are.each;
  known = λ s. (λ known. (are.known.just s).0 ((tracked s).known ∙ known), λ has. sym (tracked s).known ∙ (are.known.just s).1 has);
  ordered = are.known.ordered;
}
