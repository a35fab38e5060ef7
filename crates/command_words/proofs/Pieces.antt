-- The pieces of a list between its commas.
use Rattle.std.{proofs.Common.{◌≡◌, ℕ, ◌<◌, List, [], ◌∷◌, ◌++◌, length, sym, subst, ap, ◌∙◌}, specs.Borrow.Bor}
use Rattle.std.{specs.List.{slice_split, position_or_len, before_first, after_first}, proofs.lemmas.List.Splits.{slice_split_first, slice_split_none}}
use Rattle.std.proofs.lemmas.List.Sums.{fails_before_first}
use Rattle.command_words.specs.{Plans.is_comma, Texts.shown}

-- one piece more
pub more : (done : List (Bor (List ℕ))) (piece : Bor (List ℕ)) (rest behind : List ℕ) → position_or_len is_comma rest < length rest
    → piece.now ≡ before_first is_comma rest → behind ≡ after_first is_comma rest
    → shown done ++ slice_split is_comma rest ≡ shown (done ++ piece ∷ []) ++ slice_split is_comma behind
more [] piece rest behind within front after =
    slice_split_first is_comma rest 0 within ∙ (λ i. sym front i ∷ slice_split is_comma (sym after i))
more (x ∷ done) piece rest behind within front after = ap (λ (l : List (List ℕ)). x.now ∷ l) (more done piece rest behind within front after)

-- a list without a comma is one piece
one : (rest : List ℕ) → position_or_len is_comma rest ≡ length rest → slice_split is_comma rest ≡ rest ∷ []
one rest none =
    slice_split_none is_comma rest
    (λ (k d : ℕ) (below : k < length rest). fails_before_first is_comma rest k d (subst (λ (n : ℕ). k < n) (sym none) below))

-- and it is the last
pub last : (done : List (Bor (List ℕ))) (rest : Bor (List ℕ)) → position_or_len is_comma rest.now ≡ length rest.now
    → shown (done ++ rest ∷ []) ≡ shown done ++ slice_split is_comma rest.now
last [] rest none = sym (one rest.now none)
last (x ∷ done) rest none = ap (λ (l : List (List ℕ)). x.now ∷ l) (last done rest none)
