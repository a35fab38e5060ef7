use Rattle.std.{proofs.Common.{cond, ap, ◌∙◌, Some}, specs.Ordering.is_eq, proofs.lemmas.Result.on_ok_weaker}
use Rattle.touch_index.specs.Marks.{Entries, key_cmp, mark_of}
use Rattle.touch_index.proofs.index.TouchIndex.put.Goals as goal

pub returns-clause-ok : goal.returns-clause-ok
returns-clause-ok c =
    on_ok_weaker c.put.result
    (λ written q. written q ∙ ap (λ (es : Entries). cond (is_eq (key_cmp c.args.key.now q)) (Some c.args.mark) (mark_of q es)) c.self.view_is)
    c.put.ensures.ok
