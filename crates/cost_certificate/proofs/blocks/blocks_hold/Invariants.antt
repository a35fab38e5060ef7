use Rattle.std.proofs.Common.{ℕ, ◌*◌, min}
use Rattle.cost_certificate.specs.Checks.{PlaceHoldsInBlock, AreWatches}
use Rattle.cost_certificate.proofs.blocks.blocks_hold.Given as goal

abbrev pub invariant-loop-k : goal.invariant-loop-k
invariant-loop-k l = record {
  holds : (s : ℕ) → PlaceHoldsInBlock l.tables s 0 (min l.n (l.k * 32));
  watches : AreWatches l.tables (l.k * 32) l.watches;
}
