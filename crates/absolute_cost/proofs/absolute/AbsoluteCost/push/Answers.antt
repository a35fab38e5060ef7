use Rattle.std.proofs.Common.{◌∙◌, sym, subst, List, ℤ}
use Rattle.absolute_cost.{specs.Blocks.AreBlocksOf, proofs.Sorted.more_values}
use Rattle.absolute_cost.proofs.absolute.AbsoluteCost.push.Goals as goal

pub add_blocks-requires : goal.add_blocks-requires
add_blocks-requires c =
    subst (λ (xs : List ℤ). AreBlocksOf xs c.self.inside.sorted.items) (sym (c.deref.ensures.value ∙ c.append.ensures.items))
    (more_values c.self.inside.values.items c.args.values.now c.self.inside.sorted.items c.self.invariant.1)
