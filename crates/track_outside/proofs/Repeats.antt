-- A repeated list, and how it is moved piece by piece.
use Rattle.std.{proofs.Common.{◌≡◌, ℕ, zero, suc, ◌+◌, ◌-◌, ◌<◌, ◌≤◌, List, [], ◌∷◌, ◌++◌, length, take, drop, refl, sym, ap, ◌∙◌, arith}, specs.List.repeat}
use Rattle.std.proofs.{lemmas.List.{take-append-drop, drop-drop}, Math.Seq.take-append_seam, lemmas.Grind.common_steps}

pub repeat-empty : (n : ℕ) (xs : List ℕ) → length xs ≡ 0 → repeat n xs ≡ []
repeat-empty zero xs none = refl
repeat-empty (suc n) [] none = repeat-empty n [] none
repeat-empty (suc n) (x ∷ xs) none = absurd (omega (arith, none))

-- what was moved to the front of a buffer, and what is left behind it, are what was left
pub moved : (items front rest : List ℕ) (at n : ℕ) → front ≡ take (at + n - at) (drop at items) → length front ≡ n → at + n ≤ length items
    → (behind : List ℕ) → drop at (items ++ behind) ≡ take n (front ++ rest) ++ drop (at + n) (items ++ behind)
moved items front rest at n copied len within behind =
    let count : at + n - at ≡ n = omega arith in
    let is_front : take n (front ++ rest) ≡ front = ap (λ k. take k (front ++ rest)) (sym len) ∙ take-append_seam front rest in
    let part : front ≡ take n (drop at items) = copied ∙ ap (λ k. take k (drop at items)) count in
    let far : take n (drop at (items ++ behind)) ≡ take n (drop at items) = grind (arith, common_steps) in
    sym (ap (λ xs. xs ++ drop (at + n) (items ++ behind)) (is_front ∙ part ∙ sym far)
    ∙ ap (λ ys. take n (drop at (items ++ behind)) ++ ys) (sym (drop-drop n at (items ++ behind)))
    ∙ take-append-drop n (drop at (items ++ behind)))

-- the pattern goes on in its turn
pub goes_on : (pattern front rest : List ℕ) (turns at n : ℕ) → 0 < turns → front ≡ take (at + n - at) (drop at pattern) → length front ≡ n
    → at + n ≤ length pattern → drop at (repeat turns pattern) ≡ take n (front ++ rest) ++ drop (at + n) (repeat turns pattern)
goes_on pattern front rest zero at n some copied len within = absurd (omega (arith, some))
goes_on pattern front rest (suc turns) at n some copied len within = moved pattern front rest at n copied len within (repeat turns pattern)

-- its turn ends
pub turn_ends : (pattern front rest : List ℕ) (turns at n : ℕ) → 0 < turns → front ≡ take (at + n - at) (drop at pattern) → length front ≡ n
    → at + n ≡ length pattern → drop at (repeat turns pattern) ≡ take n (front ++ rest) ++ repeat (turns - 1) pattern
turn_ends pattern front rest zero at n some copied len ends = absurd (omega (arith, some))
turn_ends pattern front rest (suc turns) at n some copied len ends = grind (arith, common_steps)
