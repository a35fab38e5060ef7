use Rattle.penalty_path.proofs.Bounds.{bounded}
use Rattle.penalty_path.proofs.found.bounds_law.Goals as goal

pub returns : goal.returns
returns c b cert = bounded c.cost_law.ensures.in_range c.args.points.now c.limits.ensures b cert
