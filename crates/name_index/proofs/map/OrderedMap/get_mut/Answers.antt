use Rattle.std.proofs.Common.{◌≡◌, List, Some, cond, refl, sym, ap, ◌∙◌}
use Rattle.std.specs.{Prelude.is_some, Ordering.is_eq, BTreeMap.BTreeMap}
use Rattle.name_index.specs.Found.{found}
use Rattle.name_index.proofs.map.OrderedMap.get_mut.Goals as goal

pub returns : goal.returns
returns g c =
    let key : g.row.K.Denot = c.args.key.now in
    let es : List (g.row.K.Denot × g.row.T.Denot) = c.self.inside.tree.entries in (
      (
        refl,
        (λ w v there q.
            let here : Some v ≡ found g.K.Ord.cmp key es = there ∙ sym (ap (found g.K.Ord.cmp key) c.self.view_is) in
            ((c.get_mut.follows.holds w).3 (ap is_some (sym here))).0 q
            ∙ ap (λ (xs : List (g.row.K.Denot × g.row.T.Denot)). cond (is_eq (g.K.Ord.cmp key q)) (Some w) (found g.K.Ord.cmp q xs)) c.self.view_is),
        ap (λ (m : BTreeMap g.row.K.Denot g.row.T.Denot). m.entries) c.get_mut.follows.holds-at-none ∙ c.self.view_is,
      ),
      record { writes_back = tt; value = c.get_mut.ensures.value ∙ ap (found g.K.Ord.cmp key) c.self.view_is },
    )
