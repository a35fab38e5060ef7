use Rattle.std.{proofs.Common.{◌∙◌, List, [], ◌∷◌, ◌++◌, map, take, sym, ap, subst}, specs.Prelude.All, proofs.lemmas.List.{map-append, take_more}}
use Rattle.std.proofs.lemmas.List.Elements.{All-push}
use Rattle.history_model.specs.Runs.{Series}
use Rattle.report_model.specs.declared.items.SeriesLine.{SeriesLine}
use Rattle.track_model.specs.Reports.{series_in}
use Rattle.report_lines.{specs.SeriesLines.IsLine, proofs.SameSeries.line-same}
use Rattle.report_lines.proofs.series.series_lines.Goals as goal

pub loop-name-preserved : goal.loop-name-preserved
loop-name-preserved c =
    let i = c.loop-name.name-index in
    let names : List Series = c.as_slice-names.result.now in
    let lines : List SeriesLine = c.loop-name.lines in
    let x : SeriesLine = c.in_ok-line.field-0 in
    let right : IsLine c.args.series.now c.args.published.now x = line-same c.args.series.now c.loop-name.series c.args.published.now x c.loop-name.invariant.2 c.in_ok-line.ensures.is in (
      ap (map series_in) c.in_ok-push.ensures.ok ∙ map-append series_in lines (x ∷ [])
          ∙ ap (λ (ss : List Series). ss ++ series_in x ∷ []) c.loop-name.invariant.0
          ∙ ap (λ (s : Series). take i names ++ s ∷ []) (c.in_ok-line.ensures.named ∙ c.name-item.is)
          ∙ sym (take_more names i c.name-item.result c.loop-name-test.true),
      subst (All (IsLine c.args.series.now c.args.published.now)) (sym c.in_ok-push.ensures.ok)
          (All-push (IsLine c.args.series.now c.args.published.now) lines x c.loop-name.invariant.1 right),
      (λ s. c.line.ensures.same s ∙ c.loop-name.invariant.2 s),
    )
