use Rattle.std.{proofs.Common.{◌∙◌, ◌+◌, subst, arith, List, ℕ, Option}, specs.Prelude.IfSome}
use Rattle.store_rows.{specs.Loading.Takes, proofs.Leading.leads_on}
use Rattle.store_rows.proofs.load.load_into.Goals as goal

pub loop-k-preserved : goal.loop-k-preserved
loop-k-preserved g c =
    let took : IfSome (g.K.Keeper.kept c.count.new.self) (λ rows. Takes g.S.Restored.does c.loop-k.value rows (c.loop-k.k + 1) c.take_row.new.value) =
    subst (λ (o : Option (List (List ℕ))). IfSome o (λ rows. Takes g.S.Restored.does c.loop-k.value rows (c.loop-k.k + 1) c.take_row.new.value)) c.loop-k.invariant.0 c.in_ok-take_row.ensures.taken in (
      c.in_ok-take_row.ensures.rows ∙ c.loop-k.invariant.0,
      omega (arith, c.loop-k.invariant.1, c.in_ok-take_row.ensures.counts),
      c.in_ok-take_row.ensures.named ∙ c.loop-k.invariant.2,
      leads_on g.S.Restored.does (g.K.Keeper.kept c.count.new.self) _ c.loop-k.value c.take_row.new.value c.loop-k.k c.loop-k.invariant.3 took,
    )
