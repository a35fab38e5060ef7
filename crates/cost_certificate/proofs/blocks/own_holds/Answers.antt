use Rattle.std.proofs.Common.{refl}
use Rattle.cost_certificate.proofs.Needs.{level-holds}
use Rattle.cost_certificate.proofs.blocks.own_holds.Goals as goal

pub returns-then-is_level : goal.returns-then-is_level
returns-then-is_level c = (
  λ e s start below. level-holds c.args.tables.now c.args.need s c.args.from c.args.end c.requires.placed c.requires.need c.if-need-from.true
      (c.is_level.ensures c.if-is_level.true) start,
  λ all. refl,
)
