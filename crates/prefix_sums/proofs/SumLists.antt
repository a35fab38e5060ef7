-- Counts and sums that are stored apart: with one more, the first ones, and one of them.
use Rattle.std.proofs.{Common.{◌≡◌, ℕ, zero, suc, ◌<◌, List, [], ◌∷◌, ◌++◌, length, take, get_or, refl, ap, arith}, lemmas.Grind.common_steps}
use Rattle.prefix_sums.specs.{declared.sums.Sums.Sums, declared.sum_list.Totals.Totals, Lists.sums_in}

pub sums-push : (counts : List ℕ) (totals : List Totals) (n : ℕ) (t : Totals) → length counts ≡ length totals
    → sums_in (counts ++ n ∷ []) (totals ++ t ∷ []) ≡ sums_in counts totals ++ record { count = n; sum = t.sum; squares = t.squares } ∷ []
sums-push [] [] n t same = refl
sums-push [] (u ∷ totals) n t same = absurd (omega (arith, same))
sums-push (m ∷ counts) [] n t same = absurd (omega (arith, same))
sums-push (m ∷ counts) (u ∷ totals) n t same = ap (λ xs. record { count = m; sum = u.sum; squares = u.squares } ∷ xs) (sums-push counts totals n t (omega (arith, same)))

pub sums-take : (k : ℕ) (counts : List ℕ) (totals : List Totals) → sums_in (take k counts) (take k totals) ≡ take k (sums_in counts totals)
sums-take zero counts totals = refl
sums-take (suc k) [] totals = refl
sums-take (suc k) (n ∷ counts) [] = refl
sums-take (suc k) (n ∷ counts) (t ∷ totals) = ap (λ xs. record { count = n; sum = t.sum; squares = t.squares } ∷ xs) (sums-take k counts totals)

pub length-sums : (counts : List ℕ) (totals : List Totals) → length counts ≡ length totals → length (sums_in counts totals) ≡ length totals
length-sums [] [] same = refl
length-sums [] (t ∷ totals) same = absurd (omega (arith, same))
length-sums (n ∷ counts) [] same = absurd (omega (arith, same))
length-sums (n ∷ counts) (t ∷ totals) same = let rest = length-sums counts totals (omega (arith, same)) in omega (arith, rest)

pub sums-at : (counts : List ℕ) (totals : List Totals) (i : ℕ) (n : ℕ) (t : Totals) (d : Sums) → i < length counts → i < length totals
    → n ≡ get_or counts i n → t ≡ get_or totals i t → record { count = n; sum = t.sum; squares = t.squares } ≡ get_or (sums_in counts totals) i d
sums-at [] totals i n t d lt within is total = absurd (omega (arith, lt))
sums-at (m ∷ counts) [] i n t d lt within is total = absurd (omega (arith, within))
sums-at (m ∷ counts) (u ∷ totals) zero n t d lt within is total = grind (arith, common_steps)
sums-at (m ∷ counts) (u ∷ totals) (suc i) n t d lt within is total = sums-at counts totals i n t d (omega (arith, lt)) (omega (arith, within)) is total
