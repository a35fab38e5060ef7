use Rattle.track_entry.proofs.Short.{legal_short}
use Rattle.track_entry.proofs.fits.legal_law.Goals as goal

pub returns : goal.returns
returns c = legal_short
