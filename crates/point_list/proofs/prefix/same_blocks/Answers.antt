use Rattle.std.{proofs.Common.{◌≡◌, ◌∙◌, ℕ, length, get_or, sym, ap, ap₂, arith}, specs.Arc.arc_value}
use Rattle.point_list.{specs.Places.common, proofs.Joined.next-block}
use Rattle.point_list.proofs.prefix.same_blocks.Goals as goal

pub loop-k-preserved : goal.loop-k-preserved
loop-k-preserved c =
    let k : ℕ = c.loop-k.k in
    let a = c.args.a.now in
    let b = c.args.b.now in
    let one_is : c.deref.result.now ≡ arc_value (get_or a k c.index-a-k.result) = c.deref.ensures ∙ ap arc_value c.index-a-k.is in
    let other_is : c.deref-in-loop-k.result.now ≡ arc_value (get_or b k c.index-b-k.result) = c.deref-in-loop-k.ensures ∙ ap arc_value c.index-b-k.is in
    let same : common (arc_value (get_or a k c.index-a-k.result)) (arc_value (get_or b k c.index-b-k.result)) ≡ length (arc_value (get_or a k c.index-a-k.result)) =
    ap₂ common (sym one_is) (sym other_is) ∙ c.is_same.ensures c.if-not-is_same.false ∙ ap length one_is in
    record {
      common = λ one other full_a full_b.
          let next = next-block arc_value a b one other k c.index-a-k.result c.index-b-k.result full_a full_b c.loop-k-test.true c.if-k-b.true same in
          let before = c.loop-k.invariant.common one other full_a full_b in
          omega (arith, before, next);
      first = omega (arith, c.loop-k-test.true);
      second = omega (arith, c.if-k-b.true);
    }
