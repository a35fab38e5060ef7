use Rattle.std.proofs.Common.{List, Some, cond, ap, ◌∙◌}
use Rattle.std.specs.Ordering.{is_eq}
use Rattle.name_index.specs.Found.{found}
use Rattle.name_index.proofs.map.OrderedMap.put.Goals as goal

pub returns-clause-ok : goal.returns-clause-ok
returns-clause-ok g c q =
    c.in_ok-insert.ensures.updates.0 q
    ∙ ap (λ (k : g.row.K.Denot). cond (is_eq (g.K.Ord.cmp k q)) (Some c.args.value) (found g.K.Ord.cmp q c.self.inside.tree.entries)) c.in_ok-key.ensures
    ∙ ap (λ (es : List (g.row.K.Denot × g.row.T.Denot)). cond (is_eq (g.K.Ord.cmp c.args.key.now q)) (Some c.args.value) (found g.K.Ord.cmp q es)) c.self.view_is
