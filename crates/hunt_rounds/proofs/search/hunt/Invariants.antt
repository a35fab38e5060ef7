use Rattle.std.proofs.Common.{◌+◌, length, cond}
use Rattle.wide_bisect.specs.Searches.{is_running}
use Rattle.hunt_rounds.specs.{Asked.WereAskedOf, Hunts.Goes}
use Rattle.hunt_rounds.proofs.search.hunt.Given as goal

abbrev pub invariant-rounds : goal.invariant-rounds
invariant-rounds g l = record {
  goes : Goes g.A.Runner l.test l.names l.width l.initial.runners l.runners l.search;
  some : WereAskedOf g.A.Runner l.test l.names l.initial.runners l.runners;
}

abbrev pub decreases-rounds : goal.decreases-rounds
decreases-rounds g l = cond (is_running l.search.outcome) (1 + length l.search.left) 0
