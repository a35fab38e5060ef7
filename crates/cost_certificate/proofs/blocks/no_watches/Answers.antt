use Rattle.std.proofs.Common.{◌*◌, ◌^◌, false, refl, pos, neg_ℤ}
use Rattle.cost_certificate.proofs.Watches.{none-seen}
use Rattle.cost_certificate.proofs.blocks.no_watches.Goals as goal

pub returns : goal.returns
returns c =
    none-seen c.args.tables.now 0
    (record { at = 0; total = neg_ℤ (pos (2 * 10 ^ 37)); until = 0; is_shut = false }) refl refl refl refl
