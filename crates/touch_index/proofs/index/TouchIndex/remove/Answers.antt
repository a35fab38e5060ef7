use Rattle.std.{proofs.Common.{◌<◌, cond, length, ap, subst, ◌∙◌, None}, specs.Prelude.IsSome, specs.Ordering.is_eq}
use Rattle.touch_index.specs.Marks.{Entries, key_cmp, mark_of}
use Rattle.touch_index.proofs.index.TouchIndex.remove.Goals as goal

pub returns-clause-marks : goal.returns-clause-marks
returns-clause-marks c q =
    c.remove.ensures.gone q ∙ ap (λ (es : Entries). cond (is_eq (key_cmp c.args.key.now q)) None (mark_of q es)) c.self.view_is

pub returns-clause-shorter : goal.returns-clause-shorter
returns-clause-shorter c =
    subst (λ (es : Entries). IsSome (mark_of c.args.key.now es) → length c.remove.new.self < length es) c.self.view_is c.remove.ensures.shorter
