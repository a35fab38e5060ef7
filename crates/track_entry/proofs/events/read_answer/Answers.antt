use Rattle.std.proofs.Common.{[]}
use Rattle.track_entry.proofs.Readers.{kept_err}
use Rattle.track_entry.proofs.events.read_answer.Goals as goal

pub returns-in_err-job : goal.returns-in_err-job
returns-in_err-job c number place status is are =
    kept_err c.in_err-job.field-0.0 c.from_residual.result _ _ c.from_residual.ensures (c.in_err-job.ensures.reads number place _ is.0 is.1 are)

pub returns-in_err-status : goal.returns-in_err-status
returns-in_err-status c number place status is are =
    let pair = c.in_ok-job.ensures.reads number place _ is.0 is.1 are in
    kept_err c.in_err-status.field-0.0 c.from_residual-in_err-status.result _ _ c.from_residual-in_err-status.ensures (c.in_err-status.ensures.reads status [] is.2 pair.2)
