use Rattle.std.proofs.Common.{[]}
use Rattle.track_entry.proofs.{Same.same_change, Readers.kept_err}
use Rattle.track_entry.proofs.events.read_raise.Goals as goal

pub returns-in_err-test : goal.returns-in_err-test
returns-in_err-test c raised is are =
    kept_err c.in_err-test.field-0.0 c.from_residual.result _ _ c.from_residual.ensures
    (c.in_err-test.ensures.reads raised.test raised.metric raised.before raised.after [] is.series.test is.series.metric is.series.short is.before is.after are)

pub returns-in_err-end_at : goal.returns-in_err-end_at
returns-in_err-end_at c raised is are =
    let read = c.in_ok-test.ensures.reads raised.test raised.metric raised.before raised.after [] is.series.test is.series.metric is.series.short is.before is.after are in
    kept_err c.in_err-end_at.field-0.0 c.from_residual-in_err-end_at.result _ _ c.from_residual-in_err-end_at.ensures (c.in_err-end_at.ensures read.4)

pub returns : goal.returns
returns c raised is are =
    let read = c.in_ok-test.ensures.reads raised.test raised.metric raised.before raised.after [] is.series.test is.series.metric is.series.short is.before is.after are in
    same_change raised read.0 read.1 read.2 read.3
