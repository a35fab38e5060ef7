use Rattle.std.proofs.Common.{◌≡◌}
use Rattle.cost_certificate.specs.Checks.{IsWatch}
use Rattle.cost_certificate.proofs.blocks.watch_of.Given as goal

abbrev pub invariant-loop-s : goal.invariant-loop-s
invariant-loop-s l = record {
  watch : IsWatch l.tables l.start l.s l.from l.watch;
  at : l.watch.at ≡ l.from;
}
