-- Best cut lists at several penalties, over any cost of segments.
use Rattle.std.proofs.Common.{◌≡◌, ℕ, ℤ, zero, suc, ◌*◌, ◌≤◌, List, [], ◌∷◌, length, reverse, inl, inr, sym, ap, ◌∙◌, pos, nat_abs, ◌+ℤ◌, ◌-ℤ◌, ◌*ℤ◌, ◌≤ℤ◌, arith}
use Rattle.std.proofs.{lemmas.Int.ints, lemmas.Bool.cases_lt, lemmas.List.{reverse-reverse, append_cancel_right}, Math.Nat.mul-le-mul_right}
use Rattle.segment_model.{specs.Cuts.{total_between, total, backward, IsBest}, specs.Laws.{BestExists, BestIsUnique}, proofs.BestCuts.not_after-both}
use Rattle.penalty_path.specs.Laws.{CutsFall, CountIsList, BetweenIsSame}

-- the costs of a cut list's segments, without penalties
abbrev pub costs : (ℕ → ℕ → ℤ) → ℕ → List ℕ → ℤ
costs cost n cuts = total cost (pos 0) n cuts

spread-between : (cost : ℕ → ℕ → ℤ) (b : ℤ) (low high : ℕ) (cuts : List ℕ)
    → total_between cost b low high cuts ≡ total_between cost (pos 0) low high cuts +ℤ pos (length cuts) *ℤ b
spread-between cost b low high [] = omega (arith, ints)
spread-between cost b low high (c ∷ cs) = omega (arith, ints, spread-between cost b c high cs)

-- a total is the costs, and the penalty for each cut
pub spread : (cost : ℕ → ℕ → ℤ) (b : ℤ) (n : ℕ) (cuts : List ℕ) → total cost b n cuts ≡ costs cost n cuts +ℤ pos (length cuts) *ℤ b
spread cost b n cuts = spread-between cost b 0 n cuts

scale-add : (k : ℕ) (b : ℤ) (e : ℕ) → pos k *ℤ (b +ℤ pos e) ≡ pos k *ℤ b +ℤ pos (k * e)
scale-add zero b e = omega (arith, ints)
scale-add (suc k) b e = omega (arith, ints, scale-add k b e)

-- at a penalty greater by e the total is greater by e for each cut
pub raised : (cost : ℕ → ℕ → ℤ) (b : ℤ) (e n : ℕ) (cuts : List ℕ) → total cost (b +ℤ pos e) n cuts ≡ total cost b n cuts +ℤ pos (length cuts * e)
raised cost b e n cuts = omega (arith, ints, spread cost (b +ℤ pos e) n cuts, spread cost b n cuts, scale-add (length cuts) b e)

pub scale-sub : (k : ℕ) (x b : ℤ) → pos k *ℤ (x -ℤ b) ≡ pos k *ℤ x -ℤ pos k *ℤ b
scale-sub zero x b = omega (arith, ints)
scale-sub (suc k) x b = omega (arith, ints, scale-sub k x b)

module _ (cost : ℕ → ℕ → ℤ) (len n : ℕ) where
  fall-by : BestIsUnique → (b c : ℤ) (e : ℕ) (cuts others : List ℕ) → c ≡ b +ℤ pos e → IsBest cost b len n cuts → IsBest cost c len n others → length others ≤ length cuts
  fall-by unique b c zero cuts others is h k =
      let at : c ≡ b = omega (arith, ints, is) in
      let k' : IsBest cost b len n others = rw at at k in
      omega (arith, ap length (unique cost b len n others cuts k' h))
  fall-by unique b c (suc e) cuts others is h k =
      let here : total cost b n cuts ≤ℤ total cost b n others = h.least others k.is_cut_list in
      let there : total cost (b +ℤ pos (suc e)) n others ≤ℤ total cost (b +ℤ pos (suc e)) n cuts = rw is at (k.least cuts h.is_cut_list) in
      let all : length others * suc e ≤ length cuts * suc e = omega (arith, ints, here, there, raised cost b (suc e) n cuts, raised cost b (suc e) n others) in
      elim (cases_lt (length cuts) (length others)) [
        | inl lt ↦ absurd (omega (arith, all, mul-le-mul_right {m = suc (length cuts)} {n = length others} (suc e) lt))
        | inr ge ↦ ge
      ]

pub cuts-fall : BestIsUnique → CutsFall
cuts-fall unique cost len n b c cuts others h k le =
    fall-by cost len n unique b c (nat_abs (c -ℤ b)) cuts others (omega (arith, ints)) h k

-- a list with no more cuts than the best, and with a total that is no greater at a greater penalty, is cheaper
pub count-is-list : CountIsList
count-is-list cost len n b c cuts others h k e =
    let at_b = spread cost b n in
    let at_c = spread cost c n in
    let here : total cost b n cuts ≤ℤ total cost b n others = h.least others k.is_cut_list in
    let there : total cost c n others ≤ℤ total cost c n cuts = k.least cuts h.is_cut_list in
    let counts : pos (length others) ≡ pos (length cuts) = ap pos e in
    let b_cuts = at_b cuts in
    let b_others = rw e at (at_b others) in
    let c_cuts = at_c cuts in
    let c_others = rw e at (at_c others) in
    let same : total cost b n others ≡ total cost b n cuts = omega (arith, ints, here, there, b_cuts, b_others, c_cuts, c_others) in
    let same' : total cost c n cuts ≡ total cost c n others = omega (arith, ints, here, there, b_cuts, b_others, c_cuts, c_others) in
    let ends : backward others ≡ backward cuts = not_after-both (backward others) (backward cuts) (k.first cuts h.is_cut_list same') (h.first others k.is_cut_list same) in
    let turned : reverse others ≡ reverse cuts = append_cancel_right (reverse others) (reverse cuts) (0 ∷ []) ends in
    sym (reverse-reverse others) ∙ ap reverse turned ∙ reverse-reverse cuts

pub between-is-same : BestExists → BestIsUnique → BetweenIsSame
between-is-same exists unique cost len n b c between cuts h k above below =
    let there = exists cost between len n in
    let fewer = cuts-fall unique cost len n b between cuts there.0 h there.1 above in
    let more = cuts-fall unique cost len n between c there.0 cuts there.1 k below in
    let same : there.0 ≡ cuts = count-is-list cost len n b between cuts there.0 h there.1 (omega (arith, fewer, more)) in
    rw same at there.1
