use Rattle.std.proofs.Common.{ℕ, ◌*◌, ◌<◌}
use Rattle.cost_certificate.specs.Checks.{PlaceHoldsInBlock, AreWatches}
use Rattle.cost_certificate.proofs.blocks.fronts_hold.Given as goal

abbrev pub invariant-loop-j : goal.invariant-loop-j
invariant-loop-j l = record {
  holds : (s : ℕ) → s < l.j * 32 → PlaceHoldsInBlock l.tables s (l.k * 32) l.end;
  watches : AreWatches l.tables (l.k * 32) l.watches;
}
