use Rattle.std.proofs.Common.{◌∷◌, decimal}
use Rattle.track_entry.proofs.Readers.{kept_err}
use Rattle.track_entry.proofs.words.pair_at.Goals as goal

pub returns-in_err-first-clause-reads : goal.returns-in_err-first-clause-reads
returns-in_err-first-clause-reads c first second more is_first is_second are =
    kept_err c.in_err-first.field-0.0 c.from_residual.result _ _ c.from_residual.ensures (c.in_err-first.ensures.reads first (decimal second ∷ more) is_first are)

pub returns-in_err-second-clause-reads : goal.returns-in_err-second-clause-reads
returns-in_err-second-clause-reads c first second more is_first is_second are =
    let got = c.in_ok-first.ensures.reads first (decimal second ∷ more) is_first are in
    kept_err c.in_err-second.field-0.0 c.from_residual-in_err-second.result _ _ c.from_residual-in_err-second.ensures (c.in_err-second.ensures.reads second more is_second got.1)
