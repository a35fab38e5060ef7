use Rattle.std.proofs.Common.{◌≡◌, List, ℤ, length, ◌++◌, ◌∙◌, ap, sym, subst, arith}
use Rattle.absolute_cost.{specs.Blocks.{IsAdded, IsSortedFrom}, proofs.Sorted.{added, written}}
use Rattle.absolute_cost.proofs.blocks.add_block.Goals as goal

pub returns-clause-added : goal.returns-clause-added
returns-clause-added c =
    let before : length c.deref_mut.result.now ≡ length c.append.new.list.items = ap length c.deref_mut.ensures.value in
    let size : length c.sort_from.new.list ≡ length c.append.new.list.items = omega (arith, c.sort_from.ensures.count, before) in
    let from : IsSortedFrom c.len-start.result (c.args.sorted.now.items ++ c.args.values.now) c.sort_from.new.list =
    subst (λ (xs : List ℤ). IsSortedFrom c.len-start.result xs c.sort_from.new.list) (c.deref_mut.ensures.value ∙ c.append.ensures.items) c.sort_from.ensures in
    let start : c.len-start.result ≡ length c.args.sorted.now.items = omega (arith, c.len-start.ensures) in
    subst (λ (xs : List ℤ). IsAdded c.args.sorted.now.items c.args.values.now xs) (sym (written c.sort_from.new.list c.append.new.list.items c.append.new.list.len (omega (arith, c.deref_mut.ensures.len, before)) size))
    (added c.args.sorted.now.items c.args.values.now c.sort_from.new.list c.len-start.result start from)
