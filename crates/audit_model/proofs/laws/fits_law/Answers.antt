use Rattle.audit_model.proofs.Fits.{shown_fits}
use Rattle.audit_model.proofs.laws.fits_law.Goals as goal

pub returns : goal.returns
returns c = shown_fits
