use Rattle.cost_certificate.proofs.Needs.{places-from, blocks-from}
use Rattle.cost_certificate.proofs.blocks.places_hold.Goals as goal

pub returns : goal.returns
returns c = (
  λ is. places-from c.args.tables.now (c.marks_hold.ensures.0 c.if-not-marks_hold.false) (c.blocks_hold.ensures.0 is),
  λ all. c.blocks_hold.ensures.1 (blocks-from c.args.tables.now all),
)
