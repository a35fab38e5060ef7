use Rattle.std.proofs.Common.{ℕ, ◌<◌}
use Rattle.cost_certificate.specs.Checks.{PairHolds, IsFloor}
use Rattle.cost_certificate.proofs.entries.pairs_hold.Given as goal

abbrev pub invariant-loop-t : goal.invariant-loop-t
invariant-loop-t l = record {
  pairs : (t : ℕ) → l.from < t → t < l.t → PairHolds l.tables l.s t;
  floor : IsFloor l.tables l.s l.t l.floor;
}
