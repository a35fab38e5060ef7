use Rattle.play_seats.proofs.{Fitting.runs-fit, Shared.sharing-ends, Gathered.gathered-all}
use Rattle.play_seats.proofs.Joining.{joining-starts, joining-splits, joining-goes-on, joining-ends}
use Rattle.play_seats.proofs.laws.joining_law.Goals as goal

pub returns : goal.returns
returns c = record { starts = joining-starts; splits = joining-splits; goes_on = joining-goes-on; ends = joining-ends; gathered = gathered-all; shared = sharing-ends; fits = runs-fit }
