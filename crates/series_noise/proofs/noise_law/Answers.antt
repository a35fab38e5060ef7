use Rattle.series_noise.proofs.Distances.{one-noise}
use Rattle.series_noise.proofs.noise_law.Goals as goal

pub returns : goal.returns
returns c = one-noise c.centre_law.ensures.unique
