use Rattle.std.proofs.Common.{[], ap₂}
use Rattle.history_model.specs.declared.{entries.Entry.TheVariants.Regression, events.RegressionEvent.TheVariants.Move}
use Rattle.track_entry.proofs.Readers.{kept_err}
use Rattle.track_entry.proofs.events.read_move.Goals as goal

pub returns-in_err-regression : goal.returns-in_err-regression
returns-in_err-regression c number state is are =
    kept_err c.in_err-regression.field-0.0 c.from_residual.result _ _ c.from_residual.ensures (c.in_err-regression.ensures.reads number _ is are)

pub returns-in_err-state : goal.returns-in_err-state
returns-in_err-state c number state is are =
    let got = c.in_ok-regression.ensures.reads number _ is are in
    kept_err c.in_err-state.field-0.0 c.from_residual-in_err-state.result _ _ c.from_residual-in_err-state.ensures (c.in_err-state.ensures.reads state [] got.1)

pub returns : goal.returns
returns c number state is are =
    let got = c.in_ok-regression.ensures.reads number _ is are in
    ap₂ (λ n s. Regression (Move n s)) got.0 (c.in_ok-state.ensures.reads state [] got.1).0
