use Rattle.std.proofs.{Common.{◌≡◌, ℕ, ◌+◌, ◌<◌, List, [], ◌∷◌, ◌++◌, length, get_or, take, flat_map, sym, ap, ◌∙◌}, lemmas.List.{flat_map_more, take_more}}
use Rattle.penalty_path.specs.{declared.stretch.Stretch.Stretch, Text.stretch_text}
use Rattle.penalty_path.proofs.text.put_path.Goals as goal

one_more : (before now next : List ℕ) (xs : List Stretch) (i : ℕ) (x : Stretch) → i < length xs → x ≡ get_or xs i x → now ≡ before ++ flat_map stretch_text (take i xs)
    → next ≡ now ++ stretch_text x → next ≡ before ++ flat_map stretch_text (take (i + 1) xs)
one_more before now next xs i x lt is now_is next_is =
    let more : take (i + 1) xs ≡ take i xs ++ x ∷ [] = take_more xs i x lt ∙ ap (λ (y : Stretch). take i xs ++ y ∷ []) (sym is) in
    next_is ∙ ap (λ (z : List ℕ). z ++ stretch_text x) now_is ∙ flat_map_more stretch_text before (take i xs) x ∙ ap (λ (z : List Stretch). before ++ flat_map stretch_text z) (sym more)

pub loop-stretch-preserved : goal.loop-stretch-preserved
loop-stretch-preserved c =
    let same = c.as_slice-stretch-items.ensures in
    let below = rw same at c.loop-stretch-test.true in
    one_more c.put_count.new.out.items c.loop-stretch.out.items c.put_stretch.new.out.items c.args.stretches.now c.loop-stretch.stretch-index c.stretch-item.result below (rw same at c.stretch-item.is)
    c.loop-stretch.invariant c.in_ok-put_stretch.ensures
