use Rattle.std.proofs.Common.{◌≡◌, ◌+◌, ◌-◌, ◌<◌, ◌∙◌, ℕ, ℤ, List, [], ◌∷◌, ◌++◌, length, take, drop, get_or, sym, ap, ap₂, arith}
use Rattle.std.proofs.lemmas.List.{get_or-drop, length-drop, take_more, append_assoc}
use Rattle.segment_model.specs.Segments.{Position, values_of}
use Rattle.point_list.{specs.Blocks.heads_of, proofs.Joined.{heads-push, values-push}}
use Rattle.point_list.proofs.blocks.Block.of.Goals as goal

pub loop-i-preserved : goal.loop-i-preserved
loop-i-preserved c =
    let list : List Position = c.args.list.now in
    let from : ℕ = c.args.from in
    let i : ℕ = c.loop-i.i in
    let n : ℕ = i - from in
    let p : Position = c.at-position.result.now in
    let low = c.loop-i.invariant.low in
    let lt : n < length (drop from list) = omega (arith, length-drop from list, low, c.requires.within, c.loop-i-test.true) in
    let place : from + n ≡ i = omega (arith, low) in
    let is : p ≡ get_or (drop from list) n p = c.at-position.ensures p ∙ sym (get_or-drop from list n p ∙ ap (λ (k : ℕ). get_or list k p) place) in
    let next : n + 1 ≡ i + 1 - from = omega (arith, low) in
    let old : List Position = c.loop-i.positions.items in
    let same : c.push-in-loop-i-2.new.self.items ≡ old ++ p ∷ [] = c.in_ok-push-3.ensures.items ∙ ap (λ (q : Position). old ++ q ∷ []) c.in_ok-copy.ensures in
    let told_heads : c.push-in-loop-i.new.self.items ≡ heads_of c.push-in-loop-i-2.new.self.items =
    c.in_ok-push-2.ensures.items
    ∙ ap₂ (λ (hs : List ℕ) (k : ℕ). hs ++ k ∷ []) (c.in_ok-push.ensures.items ∙ ap₂ (λ (hs : List ℕ) (k : ℕ). hs ++ k ∷ []) c.loop-i.invariant.told.0 c.commit.ensures) c.len.ensures
    ∙ append_assoc (heads_of old) (p.commit ∷ []) (length p.samples ∷ [])
    ∙ sym (heads-push old p)
    ∙ ap heads_of (sym same) in
    let told_values : c.extend_from_slice.new.self.items ≡ values_of c.push-in-loop-i-2.new.self.items =
    c.in_ok-extend_from_slice.ensures.items
    ∙ ap₂ (λ (xs ys : List ℤ). xs ++ ys) c.loop-i.invariant.told.1 c.values.ensures
    ∙ sym (values-push old p)
    ∙ ap values_of (sym same) in
    record {
      positions = same ∙ ap₂ (λ (ps : List Position) (q : Position). ps ++ q ∷ []) c.loop-i.invariant.positions is ∙ sym (take_more (drop from list) n p lt) ∙ ap (λ (k : ℕ). take k (drop from list)) next;
      told = (told_heads, told_values);
      low = omega (arith, low);
    }
