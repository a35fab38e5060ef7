use Rattle.std.proofs.Common.{◌≡◌, ◌<◌, ◌∙◌, ap, sym, length, arith, get_or}
use Rattle.sample_model.specs.Samples.{Measurement}
use Rattle.history_model.specs.Runs.{same_sample}
use Rattle.sample_store.proofs.{Same.{same-more, same-not}, store.are_same.Goals.After-is_same}
use Rattle.sample_store.proofs.store.are_same.Goals as goal

same_there : (x y a b : Measurement) → x ≡ a → y ≡ b → same_sample a b ≡ same_sample x y
same_there x y a b one other = ap (λ (m : Measurement). same_sample m b) (sym one) ∙ ap (λ (m : Measurement). same_sample x m) (sym other)

within : (c : After-is_same) → c.loop-i.i < length c.args.other.now
within c = omega (arith, c.loop-i-test.true, c.if-one-other.false)

told : (c : After-is_same) → same_sample (get_or c.args.one.now c.loop-i.i c.index-one-i.result) (get_or c.args.other.now c.loop-i.i c.index-other-i.result) ≡ c.is_same.result
told c = same_there _ _ _ _ c.index-one-i.is c.index-other-i.is ∙ sym c.is_same.ensures

pub returns-then-not-is_same : goal.returns-then-not-is_same
returns-then-not-is_same c =
    let k = (goal.at.returns-then-not-is_same c).After-is_same in
    sym (same-not same_sample c.args.one.now c.args.other.now c.loop-i.i c.index-one-i.result c.index-other-i.result c.loop-i-test.true (within k) (told k ∙ c.if-not-is_same.true))

pub loop-i-preserved : goal.loop-i-preserved
loop-i-preserved c =
    let k = (goal.at.loop-i-preserved c).After-is_same in
    same-more same_sample c.args.one.now c.args.other.now c.loop-i.i c.index-one-i.result c.index-other-i.result c.loop-i-test.true (within k) c.loop-i.invariant
    (told k ∙ c.if-not-is_same.false)
