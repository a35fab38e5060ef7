-- Texts that grow by one part after the other.
use Rattle.std.proofs.{Common.{◌≡◌, ℕ, suc, ◌+◌, List, ◌++◌, refl, sym, ap, ◌∙◌, arith}, lemmas.List.{append_assoc, append-nil}}
use Rattle.series_gen.specs.Script.{in_turn, next, state_after}

-- one part behind another
pub behind : (before here after one other : List ℕ) → here ≡ before ++ one → after ≡ here ++ other → after ≡ before ++ (one ++ other)
behind before here after one other e f = f ∙ ap (λ (text : List ℕ). text ++ other) e ∙ append_assoc before one other

pub none-yet : (text : List ℕ) (made : ℕ → List ℕ) → text ≡ text ++ in_turn made 0
unfolding in_turn
none-yet text made = sym (append-nil text)

one-more : (made : ℕ → List ℕ) (n : ℕ) → in_turn made (n + 1) ≡ in_turn made n ++ made n
unfolding in_turn
one-more made n = let e : n + 1 ≡ suc n = omega arith in rw e refl

pub next-turn : (made : ℕ → List ℕ) (before here after : List ℕ) (n : ℕ) → here ≡ before ++ in_turn made n → after ≡ here ++ made n
    → after ≡ before ++ in_turn made (n + 1)
next-turn made before here after n e f = rw (one-more made n) (behind before here after (in_turn made n) (made n) e f)

pub first-state : (number : ℕ) → number ≡ state_after number 0
unfolding state_after
first-state number = refl

pub next-state : (number j state : ℕ) → state ≡ state_after number j → next state ≡ state_after number (suc j)
unfolding state_after
next-state number j state e = ap next e
