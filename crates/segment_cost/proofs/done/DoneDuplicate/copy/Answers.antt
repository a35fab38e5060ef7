use Rattle.std.proofs.Common.{refl}
use Rattle.segment_cost.proofs.Segmentations.{same_segmentation}
use Rattle.segment_cost.proofs.done.DoneDuplicate.copy.Goals as goal

pub invariant_of-result : goal.invariant_of-result
invariant_of-result c = record { stands = rw (c.in_ok-copy-3.ensures, c.in_ok-share.ensures) c.args.self.now.stands }

pub returns : goal.returns
returns c = same_segmentation _ c.args.self.now c.in_ok-copy.ensures c.in_ok-copy-2.ensures refl refl refl c.in_ok-copy-3.ensures c.in_ok-share.ensures
