use Rattle.track_entry.proofs.Readers.{kept_err}
use Rattle.track_entry.proofs.words.series_pair_at.Goals as goal

pub returns-in_err-test-clause-reads : goal.returns-in_err-test-clause-reads
returns-in_err-test-clause-reads c test metric first second more is_test is_metric short is_first is_second words =
    kept_err c.in_err-test.field-0.0 c.from_residual.result _ _ c.from_residual.ensures (c.in_err-test.ensures.reads test metric _ is_test is_metric short words)

pub returns-in_err-first-clause-reads : goal.returns-in_err-first-clause-reads
returns-in_err-first-clause-reads c test metric first second more is_test is_metric short is_first is_second words =
    let series = c.in_ok-test.ensures.reads test metric _ is_test is_metric short words in
    kept_err c.in_err-first.field-0.0 c.from_residual-in_err-first.result _ _ c.from_residual-in_err-first.ensures (c.in_err-first.ensures.reads first second more is_first is_second series.2)

pub returns-clause-reads : goal.returns-clause-reads
returns-clause-reads c test metric first second more is_test is_metric short is_first is_second words =
    let series = c.in_ok-test.ensures.reads test metric _ is_test is_metric short words in
    let pair = c.in_ok-first.ensures.reads first second more is_first is_second series.2 in
    (series.0, series.1, pair.0, pair.1, pair.2)
