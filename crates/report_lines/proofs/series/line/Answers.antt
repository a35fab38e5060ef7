use Rattle.std.proofs.Common.{◌≡◌, ◌∙◌, ℕ, List, length, sym, ap, subst}
use Rattle.segment_model.specs.Segments.{values_of}
use Rattle.history_model.specs.Runs.{Series}
use Rattle.publication_index.specs.Kept.{kept}
use Rattle.series_index.specs.Seen.{seen}
use Rattle.report_lines.specs.SeriesLines.{IsOfKept}
use Rattle.report_lines.proofs.series.line.Goals as goal

pub returns-clause-is : goal.returns-clause-is
returns-clause-is c =
    let s : Series = c.args.name.now in
    let test : c.in_ok-copy.field-0 ≡ s.test = c.in_ok-copy.ensures ∙ c.test-2.ensures in
    let metric : c.in_ok-copy-2.field-0 ≡ s.metric = c.in_ok-copy-2.ensures ∙ c.metric-2.ensures in
    let made : Series = record { test = c.in_ok-copy.field-0; metric = c.in_ok-copy-2.field-0 } in
    let named : made ≡ s =
    ap (λ (t : List ℕ). let u : Series = record { test = t; metric = c.in_ok-copy-2.field-0 } in u) test
    ∙ ap (λ (m : List ℕ). let u : Series = record { test = s.test; metric = m } in u) metric in
    record {
      samples = c.live_samples-samples.ensures
          ∙ ap (λ (u : Series). length (values_of (seen u c.args.series.now).points)) (sym named);
      positions = c.in_ok-positions.ensures.count
          ∙ ap (λ (t : List ℕ). let u : Series = record { test = t; metric = c.metric.result.now } in length (seen u c.args.series.now).points) c.test.ensures
          ∙ ap (λ (m : List ℕ). let u : Series = record { test = s.test; metric = m } in length (seen u c.args.series.now).points) c.metric.ensures
          ∙ ap (λ (u : Series). length (seen u c.args.series.now).points) (sym named);
      last = subst (λ (u : Series). IsOfKept (kept u c.args.published.now) c.in_ok-changes.changes c.in_ok-changes.centre) (sym named) c.in_ok-changes.ensures;
    }
