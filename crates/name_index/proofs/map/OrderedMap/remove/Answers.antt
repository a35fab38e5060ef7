use Rattle.std.{proofs.Common.{◌≡◌, ℕ, Bool, ◌+◌, ◌<◌, List, true, false, cond, length, ap, subst, ◌∙◌, None, arith}, specs.Prelude.{is_some}}
use Rattle.std.{specs.Ordering.is_eq, proofs.lemmas.Grind.common_steps}
use Rattle.name_index.specs.Found.{found}
use Rattle.name_index.proofs.map.OrderedMap.remove.Goals as goal

pub returns-clause-gone : goal.returns-clause-gone
returns-clause-gone g c q =
    c.remove.ensures.updates.0 q
    ∙ ap (λ (es : List (g.row.K.Denot × g.row.T.Denot)). cond (is_eq (g.K.Ord.cmp c.args.key.now q)) None (found g.K.Ord.cmp q es)) c.self.view_is

-- one entry less
fewer : (n m : ℕ) (there : Bool) → there ≡ true → n + cond there 1 0 ≡ m → n < m
fewer n m true is size = omega (arith, size)
fewer n m false is size = absurd (cc)

pub returns-clause-shorter : goal.returns-clause-shorter
returns-clause-shorter g c some =
    let there : is_some c.remove.result ≡ true = grind (arith, common_steps) in
    subst (λ (es : List (g.row.K.Denot × g.row.T.Denot)). length c.remove.new.self.entries < length es) c.self.view_is
    (fewer (length c.remove.new.self.entries) (length c.self.inside.tree.entries) (is_some c.remove.result) there c.remove.ensures.len)
