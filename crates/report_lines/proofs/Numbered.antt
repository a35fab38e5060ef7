-- Items with their numbers.
use Rattle.std.{proofs.Common.{◌≡◌, ℕ, suc, ◌+◌, ◌<◌, List, [], ◌∷◌, ◌++◌, length, take, Option, Some, ap, sym, ◌∙◌, arith}, specs.Prelude.slice_get}
use Rattle.std.proofs.lemmas.{List.{take_more, length-take-le}, Option.{slice_get_within, get_or_from_slice_get}}
use Rattle.track_model.specs.Reports.{numbered}

-- one item more takes the number behind the others
numbered-more : {A B : Type 0} (line : ℕ → A → B) (n : ℕ) (xs : List A) (x : A) → numbered line n (xs ++ x ∷ []) ≡ numbered line n xs ++ line (n + length xs) x ∷ []
numbered-more {A} {B} line n [] x = ap (λ (k : ℕ). line k x ∷ []) (omega arith)
numbered-more {A} {B} line n (y ∷ xs) x =
    ap (λ (more : List B). line n y ∷ more) (numbered-more line (n + 1) xs x
    ∙ ap (λ (k : ℕ). numbered line (n + 1) xs ++ line k x ∷ []) (omega arith))

-- a loop's step: the item of the next place takes the next number
numbered-step : {A B : Type 0} (line : ℕ → A → B) (xs : List A) (i : ℕ) (x : A) → slice_get xs i ≡ Some x → (made : List B) (one : B)
    → made ≡ numbered line 1 (take i xs) → one ≡ line (i + 1) x → made ++ one ∷ [] ≡ numbered line 1 (take (i + 1) xs)
numbered-step {A} {B} line xs i x found made one so-far is =
    let within : i < length xs = slice_get_within xs i x found in
    let front : length (take i xs) ≡ i = length-take-le i xs (omega (arith, within)) in
    ap (λ (ls : List B). ls ++ one ∷ []) so-far
    ∙ ap (λ (l : B). numbered line 1 (take i xs) ++ l ∷ []) is
    ∙ ap (λ (k : ℕ). numbered line 1 (take i xs) ++ line k x ∷ []) (omega (arith, front))
    ∙ sym (numbered-more line 1 (take i xs) x)
    ∙ ap (λ (y : A). numbered line 1 (take i xs ++ y ∷ [])) (sym (get_or_from_slice_get xs i x x found))
    ∙ ap (λ (ys : List A). numbered line 1 ys) (sym (take_more xs i x within))

-- the same, where an item is asked for by its number
pub numbered-next : {A B : Type 0} (line : ℕ → A → B) (xs : List A) (i : ℕ) (x : A) (at : ℕ → Option A) → at (suc i) ≡ slice_get xs i → Some x ≡ at (i + 1) → (made : List B) (one : B)
    → made ≡ numbered line 1 (take i xs) → one ≡ line (i + 1) x → made ++ one ∷ [] ≡ numbered line 1 (take (i + 1) xs)
numbered-next line xs i x at here is =
    let next : i + 1 ≡ suc i = omega arith in
    numbered-step line xs i x (sym (is ∙ ap at next ∙ here))
