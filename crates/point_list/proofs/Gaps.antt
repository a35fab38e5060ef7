-- A gap in the cells in use, closed from either side.
use Rattle.std.{proofs.Common.{◌≡◌, ℕ, List, ◌++◌, length, take, drop, ◌+◌, ◌-◌, ◌≤◌, ℤ, ◌∙◌, sym, ap, ap₂, arith}, specs.List.copy_within}
use Rattle.std.proofs.lemmas.List.{drop-take, take-take, length-drop, drop-append-le, append_assoc, drop-drop, Edits.take-paste}
use Rattle.std.proofs.Math.Seq.{take-append-add, drop-append_seam}
use Rattle.point_list.{proofs.Samples.length-front, specs.Stored.without}

-- the list without a gap, by the cells themselves
rest : (cells : List ℤ) (first end low high : ℕ) → low ≤ high → first + high ≤ end → end ≤ length cells
    → without low high (drop first (take end cells)) ≡ take low (drop first cells) ++ take (end - (first + high)) (drop (first + high) cells)
rest cells first end low high order in_use within =
    let n : ℕ = end - (first + high) in
    let live : drop first (take end cells) ≡ take (end - first) (drop first cells) = ap (λ k. drop first (take k cells)) (omega (arith, in_use, order)) ∙ drop-take first (end - first) cells in
    ap₂ (λ (xs ys : List ℤ). xs ++ ys)
    (ap (take low) live ∙ take-take low (end - first) (drop first cells) (omega (arith, in_use, order)))
    (drop-drop high first (take end cells) ∙ ap (λ k. drop (first + high) (take k cells)) (omega (arith, in_use)) ∙ drop-take (first + high) n cells)

-- those in front of it moved up
pub closed-up : (cells : List ℤ) (first end low high : ℕ) → low ≤ high → first + high ≤ end → end ≤ length cells
    → drop (first + (high - low)) (take end (copy_within cells first (first + low) (first + (high - low)))) ≡ without low high (drop first (take end cells))
closed-up cells first end low high order in_use within =
    let at : ℕ = first + (high - low) in
    let front : List ℤ = drop first cells in
    let moved : List ℤ = take low front in
    let behind : List ℤ = drop (first + high) cells in
    let n : ℕ = end - (first + high) in
    let new : List ℤ = copy_within cells first (first + low) at in
    let long : length (take at cells) ≡ at = length-front cells at (omega (arith, in_use, order, within)) in
    let size : length moved ≡ low = length-front front low (omega (arith, in_use, order, within, length-drop first cells)) in
    let is : new ≡ take at cells ++ (moved ++ behind) =
    ap₂ (λ (k m : ℕ). take at cells ++ take k front ++ drop m cells) (omega arith) (omega (arith, order)) ∙ append_assoc (take at cells) moved behind in
    ap (λ k. drop at (take k new)) (omega (arith, in_use, order)) ∙ drop-take at (low + n) new
    ∙ ap (λ xs. take (low + n) (drop at xs)) is
    ∙ ap (λ k. take (low + n) (drop k (take at cells ++ (moved ++ behind)))) (sym long)
    ∙ ap (take (low + n)) (drop-append_seam (take at cells) (moved ++ behind))
    ∙ ap (λ k. take (k + n) (moved ++ behind)) (sym size)
    ∙ take-append-add moved behind n
    ∙ sym (rest cells first end low high order in_use within)

-- those after it moved down
pub closed-down : (cells : List ℤ) (first end low high : ℕ) → low ≤ high → first + high ≤ end → end ≤ length cells
    → drop first (take (end - (high - low)) (copy_within cells (first + high) end (first + low))) ≡ without low high (drop first (take end cells))
closed-down cells first end low high order in_use within =
    let n : ℕ = end - (first + high) in
    let behind : List ℤ = drop (first + high) cells in
    let new : List ℤ = copy_within cells (first + high) end (first + low) in
    let long : first ≤ length (take (first + low) cells) = omega (arith, length-front cells (first + low) (omega (arith, in_use, order, within))) in
    ap (λ k. drop first (take k new)) (omega (arith, in_use, order))
    ∙ ap (drop first) (take-paste cells (first + low) behind n (omega (arith, in_use, order, within)) (omega (arith, within, in_use, length-drop (first + high) cells)))
    ∙ drop-append-le first (take (first + low) cells) (take n behind) long
    ∙ ap (λ xs. xs ++ take n behind) (drop-take first low cells)
    ∙ sym (rest cells first end low high order in_use within)
