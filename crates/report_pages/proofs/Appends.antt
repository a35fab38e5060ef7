-- Texts that are appended one after another.
use Rattle.std.{proofs.Common.{◌≡◌, ℕ, ◌+◌, ◌<◌, List, [], ◌∷◌, ◌++◌, length, get_or, take, sym, ap, ◌∙◌, append_assoc}, specs.Prelude.flat_map}
use Rattle.std.proofs.lemmas.List.{flat_map_more, take_more}

-- the pieces of a line of a series
pub series_pieces : (o h n m s a b c d e : List ℕ)
    → ((((o ++ h) ++ (n ++ s ++ m)) ++ (s ++ a ++ s ++ b ++ s ++ c)) ++ (s ++ d)) ++ e
    ≡ o ++ (h ++ n ++ s ++ m ++ s ++ a ++ s ++ b ++ s ++ c ++ s ++ d ++ e)
series_pieces o h n m s a b c d e = simp append_assoc

-- the text of one item more
pub text_more : {X : Type 0} (f : X → List ℕ) (xs : List X) (i : ℕ) (x : X) (before at after : List ℕ) → i < length xs → x ≡ get_or xs i x
    → at ≡ before ++ flat_map f (take i xs) → after ≡ at ++ f x → after ≡ before ++ flat_map f (take (i + 1) xs)
text_more {X = X} f xs i x before at after within is stood e =
    let more : take (i + 1) xs ≡ take i xs ++ x ∷ [] = take_more xs i x within ∙ ap (λ (y : X). take i xs ++ y ∷ []) (sym is) in
    e ∙ ap (λ (l : List ℕ). l ++ f x) stood ∙ flat_map_more f before (take i xs) x ∙ ap (λ (l : List X). before ++ flat_map f l) (sym more)
