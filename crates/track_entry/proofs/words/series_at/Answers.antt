use Rattle.std.proofs.{Common.{◌∷◌, arith}, lemmas.Grind.common_steps}
use Rattle.line_text.specs.Names.{spelling}
use Rattle.track_entry.proofs.Readers.{kept_err}
use Rattle.track_entry.proofs.words.series_at.Goals as goal

pub returns-in_err-test-clause-reads : goal.returns-in_err-test-clause-reads
returns-in_err-test-clause-reads c test metric more is_test is_metric short words =
    kept_err c.in_err-test.field-0.0 c.from_residual.result _ _ c.from_residual.ensures
    (c.in_err-test.ensures.reads test (spelling metric ∷ more) is_test words)

pub returns-in_err-metric-clause-reads : goal.returns-in_err-metric-clause-reads
returns-in_err-metric-clause-reads c test metric more is_test is_metric short words =
    let first = c.in_ok-test.ensures.reads test (spelling metric ∷ more) is_test words in
    kept_err c.in_err-metric.field-0.0 c.from_residual-in_err-metric.result _ _ c.from_residual-in_err-metric.ensures
    (c.in_err-metric.ensures.reads metric more is_metric first.1)

pub returns-clause-reads : goal.returns-clause-reads
returns-clause-reads c test metric more is_test is_metric short words = grind (arith, common_steps)
