use Rattle.track_entry.proofs.Readers.{kept_err}
use Rattle.track_entry.proofs.read.read_behind.Goals as goal

pub returns-in_err-lo-in-Begin : goal.returns-in_err-lo-in-Begin
returns-in_err-lo-in-Begin c = rw c.in-Begin.is (λ lo hi is are.
    kept_err c.in_err-lo-in-Begin.field-0.0 c.from_residual.result _ _ c.from_residual.ensures (c.in_err-lo-in-Begin.ensures lo hi is.0 is.1 are))

pub returns-in_err-job-in-GiveUp : goal.returns-in_err-job-in-GiveUp
returns-in_err-job-in-GiveUp c = rw c.in-GiveUp.is (λ number place is are.
    kept_err c.in_err-job-in-GiveUp.field-0.0 c.from_residual-in_err-job-in-GiveUp.result _ _ c.from_residual-in_err-job-in-GiveUp.ensures (c.in_err-job-in-GiveUp.ensures number place is.0 is.1 are))
