-- Values of which each whole block stands in order.
use Rattle.std.proofs.Common.{◌≡◌, ℕ, ℤ, zero, suc, ◌+◌, ◌-◌, ◌*◌, ◌%◌, ◌<◌, ◌≤◌, List, [], ◌++◌, length, take, drop, sum_by, min, refl, sym, ap, ◌∙◌, subst, arith, inl, inr}
use Rattle.std.proofs.lemmas.Bool.{cases_order}
use Rattle.std.proofs.lemmas.List.{length-append, length-take, length-take-le, length-drop, take-append-drop, take-take, drop-take, drop-drop, take_all, take_at, drop_at, drop_all, append-nil}
use Rattle.std.proofs.lemmas.List.Sums.{sum_by-append}
use Rattle.absolute_cost.specs.Blocks.{AreInOrder, block, AreBlocks, HaveSameSums, AreBlocksOf, IsAdded, IsSortedFrom, all_of}

-- ---- parts of lists

take_split : (n m : ℕ) (xs : List ℤ) → take (n + m) xs ≡ take n xs ++ take m (drop n xs)
take_split n m xs =
    let all : take n (take (n + m) xs) ++ drop n (take (n + m) xs) ≡ take (n + m) xs = take-append-drop n (take (n + m) xs) in
    let front : take n (take (n + m) xs) ≡ take n xs = take-take n (n + m) xs (omega arith) in
    let rest : drop n (take (n + m) xs) ≡ take m (drop n xs) = drop-take n m xs in
    cc

-- a block within the first values
block_front : (k n : ℕ) (xs : List ℤ) → 32 * k + 32 ≤ n → block k (take n xs) ≡ block k xs
block_front k n xs fits =
    let sum : 32 * k + (n - 32 * k) ≡ n = omega (arith, fits) in
    let rest : drop (32 * k) (take (32 * k + (n - 32 * k)) xs) ≡ take (n - 32 * k) (drop (32 * k) xs) = drop-take (32 * k) (n - 32 * k) xs in
    let same : drop (32 * k) (take n xs) ≡ take (n - 32 * k) (drop (32 * k) xs) = subst (λ (m : ℕ). drop (32 * k) (take m xs) ≡ take (n - 32 * k) (drop (32 * k) xs)) sum rest in
    ap (λ (ys : List ℤ). take 32 ys) same ∙ take-take 32 (n - 32 * k) (drop (32 * k) xs) (omega (arith, fits))

-- a block of the values behind some blocks
block_behind : (a k : ℕ) (xs : List ℤ) → block k (drop (32 * a) xs) ≡ block (a + k) xs
block_behind a k xs =
    let at : 32 * a + 32 * k ≡ 32 * (a + k) = omega arith in
    ap (λ (ys : List ℤ). take 32 ys) (drop-drop (32 * k) (32 * a) xs ∙ ap (λ (n : ℕ). drop n xs) at)

-- the blocks up to the next one
pub one_more : (k : ℕ) (xs : List ℤ) → take (32 * (k + 1)) xs ≡ take (32 * k) xs ++ block k xs
one_more k xs =
    let at : 32 * (k + 1) ≡ 32 * k + 32 = omega arith in
    ap (λ (n : ℕ). take n xs) at ∙ take_split (32 * k) 32 xs

pub block_length : (k : ℕ) (xs : List ℤ) → 32 * k + 32 ≤ length xs → length (block k xs) ≡ 32
block_length k xs fits = length-take-le 32 (drop (32 * k) xs) (omega (arith, length-drop (32 * k) xs, fits))

-- ---- the same sums

same_append : (os bs cs ds : List ℤ) → HaveSameSums os bs → HaveSameSums cs ds → HaveSameSums (os ++ cs) (bs ++ ds)
same_append os bs cs ds one other f = omega (arith, sum_by-append f os cs, sum_by-append f bs ds, one f, other f)

pub same_by : (xs ys us vs : List ℤ) → xs ≡ us → ys ≡ vs → HaveSameSums us vs → HaveSameSums xs ys
same_by xs ys us vs e g same f = ap (λ (zs : List ℤ). sum_by f zs) e ∙ same f ∙ sym (ap (λ (zs : List ℤ). sum_by f zs) g)

-- some blocks, from one to another
run : ℕ → ℕ → List ℤ → List ℤ
run a m xs = take (32 * m) (drop (32 * a) xs)

run_more : (a m : ℕ) (xs : List ℤ) → run a (suc m) xs ≡ run a m xs ++ block (a + m) xs
unfolding run
run_more a m xs =
    let at : 32 * suc m ≡ 32 * (m + 1) = omega arith in
    ap (λ (n : ℕ). take n (drop (32 * a) xs)) at ∙ one_more m (drop (32 * a) xs) ∙ ap (λ (zs : List ℤ). take (32 * m) (drop (32 * a) xs) ++ zs) (block_behind a m xs)

run_same : (values sorted : List ℤ) (a m : ℕ) → AreBlocksOf values sorted → 32 * a + 32 * m ≤ length sorted → HaveSameSums (run a m values) (run a m sorted)
unfolding run
run_same values sorted a zero of fits = λ (f : ℤ → ℕ). refl
run_same values sorted a (suc m) of fits =
    same_by (run a (suc m) values) (run a (suc m) sorted) (run a m values ++ block (a + m) values) (run a m sorted ++ block (a + m) sorted)
    (run_more a m values) (run_more a m sorted)
    (same_append (run a m values) (run a m sorted) (block (a + m) values) (block (a + m) sorted) (run_same values sorted a m of (omega (arith, fits))) (of.same (a + m) (omega (arith, fits))))

run_blocks : (sorted : List ℤ) (a m : ℕ) → AreBlocks sorted → 32 * a + 32 * m ≤ length sorted → AreBlocks (run a m sorted)
unfolding run
run_blocks sorted a m blocks fits =
    let count : length (take (32 * m) (drop (32 * a) sorted)) ≡ 32 * m = length-take-le (32 * m) (drop (32 * a) sorted) (omega (arith, length-drop (32 * a) sorted, fits)) in
    record {
      whole = omega (arith, count);
      ordered = λ (k : ℕ) (within : 32 * k + 32 ≤ length (take (32 * m) (drop (32 * a) sorted))).
          let near : 32 * k + 32 ≤ 32 * m = omega (arith, within, count) in
          let is : block k (take (32 * m) (drop (32 * a) sorted)) ≡ block (a + k) sorted = block_front k (32 * m) (drop (32 * a) sorted) near ∙ block_behind a k sorted in
          subst AreInOrder (sym is) (blocks.ordered (a + k) (omega (arith, near, fits)));
    }

-- ---- the blocks of values

pub none_yet : (values : List ℤ) → AreBlocksOf values []
none_yet values = record {
  blocks = record { whole = refl; ordered = λ (k : ℕ) (h : 32 * k + 32 ≤ 0). absurd (omega (arith, h)) };
  within = omega arith;
  same = λ (k : ℕ) (h : 32 * k + 32 ≤ 0). absurd (omega (arith, h));
}

-- with more values behind
pub more_values : (values more sorted : List ℤ) → AreBlocksOf values sorted → AreBlocksOf (values ++ more) sorted
more_values values more sorted of = record {
  blocks = of.blocks;
  within = omega (arith, of.within, length-append values more);
  same = λ (k : ℕ) (fits : 32 * k + 32 ≤ length sorted).
      let front : take (length values) (values ++ more) ≡ values = take_at values more (length values) refl in
      let is : block k (values ++ more) ≡ block k values = sym (block_front k (length values) (values ++ more) (omega (arith, fits, of.within))) ∙ ap (λ (zs : List ℤ). block k zs) front in
      same_by (block k (values ++ more)) (block k sorted) (block k values) (block k sorted) is refl (of.same k fits);
}

min_left : (a b : ℕ) → a % 32 ≡ 0 → b % 32 ≡ 0 → min a b % 32 ≡ 0
min_left a b one other = omega (arith, one, other)

-- the first of them
pub first_values : (values sorted : List ℤ) (n m : ℕ) → m ≤ n → m % 32 ≡ 0 → AreBlocksOf values sorted → AreBlocksOf (take n values) (take m sorted)
first_values values sorted n m le whole of =
    let count : length (take m sorted) ≡ min m (length sorted) = length-take m sorted in
    let all : length (take n values) ≡ min n (length values) = length-take n values in
    record {
      blocks = record {
        whole = rw count (min_left m (length sorted) whole of.blocks.whole);
        ordered = λ (k : ℕ) (fits : 32 * k + 32 ≤ length (take m sorted)).
            subst AreInOrder (sym (block_front k m sorted (omega (arith, fits, count)))) (of.blocks.ordered k (omega (arith, fits, count)));
      };
      within = omega (arith, count, all, of.within, le);
      same = λ (k : ℕ) (fits : 32 * k + 32 ≤ length (take m sorted)).
          same_by (block k (take n values)) (block k (take m sorted)) (block k values) (block k sorted)
          (block_front k n values (omega (arith, fits, count, le))) (block_front k m sorted (omega (arith, fits, count))) (of.same k (omega (arith, fits, count)));
    }

by_place : (j k : ℕ) (P : Type 0) → j ≤ k → (j < k → P) → (j ≡ k → P) → P
by_place j k P le less same = elim (cases_order j k) [
  | inl e ↦ same e
  | inr ne ↦ elim ne [
    | inl lt ↦ less lt
    | inr gt ↦ absurd (omega (arith, le, gt))
  ]
]

-- one block more
pub one_block : (values before after : List ℤ) (k : ℕ) → length before ≡ 32 * k → 32 * k + 32 ≤ length values → AreBlocksOf values before → IsAdded before (block k values) after → AreBlocksOf values after
one_block values before after k is fits of added =
    let full : length (block k values) ≡ 32 = block_length k values fits in
    let count : length after ≡ 32 * k + 32 = omega (arith, added.count, is, full) in
    let front : take (32 * k) after ≡ before = subst (λ (n : ℕ). take n after ≡ before) is added.front in
    let last : block k after ≡ drop (length before) after =
    take_all 32 (drop (32 * k) after) (omega (arith, length-drop (32 * k) after, count)) ∙ ap (λ (n : ℕ). drop n after) (sym is) in
    let old = λ (j : ℕ) (lt : j < k). sym (block_front j (32 * k) after (omega (arith, lt))) ∙ ap (λ (zs : List ℤ). block j zs) front in
    record {
      blocks = record {
        whole = omega (arith, count);
        ordered = λ (j : ℕ) (within : 32 * j + 32 ≤ length after). by_place j k (AreInOrder (block j after)) (omega (arith, within, count))
            (λ (lt : j < k). subst AreInOrder (sym (old j lt)) (of.blocks.ordered j (omega (arith, lt, is))))
            (λ (e : j ≡ k). subst (λ (n : ℕ). AreInOrder (block n after)) (sym e) (subst AreInOrder (sym last) added.ordered));
      };
      within = omega (arith, count, fits);
      same = λ (j : ℕ) (within : 32 * j + 32 ≤ length after). by_place j k (HaveSameSums (block j values) (block j after)) (omega (arith, within, count))
          (λ (lt : j < k). same_by (block j values) (block j after) (block j values) (block j before) refl (old j lt) (of.same j (omega (arith, lt, is))))
          (λ (e : j ≡ k). subst (λ (n : ℕ). HaveSameSums (block n values) (block n after)) (sym e) (same_by (block k values) (block k after) (block k values) (drop (length before) after) refl last added.same));
    }

-- a block that was put at the end, and then in order
pub added : (before values after : List ℤ) (start : ℕ) → start ≡ length before → IsSortedFrom start (before ++ values) after → IsAdded before values after
added before values after start is from =
    let at : length before ≡ start = sym is in
    let front : take start (before ++ values) ≡ before = take_at before values start at in
    let back : drop start (before ++ values) ≡ values = drop_at before values start at in
    record {
      count = omega (arith, from.count, length-append before values);
      front = subst (λ (n : ℕ). take n after ≡ before) is (from.front ∙ front);
      same = same_by values (drop (length before) after) (drop start (before ++ values)) (drop start after) (sym back) (ap (λ (n : ℕ). drop n after) at) from.same;
      ordered = subst (λ (n : ℕ). AreInOrder (drop n after)) is from.ordered;
    }

-- a list whose items were all written
pub written : (new old : List ℤ) (n : ℕ) → n ≡ length old → length new ≡ length old → take n (new ++ drop (length new) old) ≡ new
written new old n is size =
    ap (λ (zs : List ℤ). take n (new ++ zs)) (drop_all (length new) old (omega (arith, size))) ∙ ap (take n) (append-nil new) ∙ take_all n new (omega (arith, is, size))

-- ---- the pieces of a segment

part_is : (first last : ℕ) (xs : List ℤ) → run first (last - first) xs ≡ take (last * 32 - first * 32) (drop (first * 32) xs)
unfolding run
part_is first last xs =
    let width : 32 * (last - first) ≡ last * 32 - first * 32 = omega arith in
    let at : 32 * first ≡ first * 32 = omega arith in
    ap (λ (n : ℕ). take n (drop (32 * first) xs)) width ∙ ap (λ (n : ℕ). take (last * 32 - first * 32) (drop n xs)) at

pub part_blocks : (sorted : List ℤ) (first last : ℕ) → AreBlocks sorted → first ≤ last → last * 32 ≤ length sorted → AreBlocks (take (last * 32 - first * 32) (drop (first * 32) sorted))
part_blocks sorted first last blocks le within = subst AreBlocks (part_is first last sorted) (run_blocks sorted first (last - first) blocks (omega (arith, le, within)))

part_split : (from at to : ℕ) (xs : List ℤ) → from ≤ at → at ≤ to → take (to - from) (drop from xs) ≡ take (at - from) (drop from xs) ++ take (to - at) (drop at xs)
part_split from at to xs low high =
    let sum : to - from ≡ (at - from) + (to - at) = omega (arith, low, high) in
    let there : from + (at - from) ≡ at = omega (arith, low) in
    ap (λ (n : ℕ). take n (drop from xs)) sum ∙ take_split (at - from) (to - at) (drop from xs)
    ∙ ap (λ (zs : List ℤ). take (at - from) (drop from xs) ++ take (to - at) zs) (drop-drop (at - from) from xs ∙ ap (λ (n : ℕ). drop n xs) there)

pub part_same : (values sorted : List ℤ) (from to first last : ℕ) → AreBlocksOf values sorted → from ≤ first * 32 → first ≤ last → last * 32 ≤ to → last * 32 ≤ length sorted
    → HaveSameSums (take (to - from) (drop from values))
    (all_of (take (first * 32 - from) (drop from values)) (take (last * 32 - first * 32) (drop (first * 32) sorted)) (take (to - last * 32) (drop (last * 32) values)))
part_same values sorted from to first last of low le high within =
    let one = part_split from (first * 32) to values low (omega (arith, le, high)) in
    let two = part_split (first * 32) (last * 32) to values (omega (arith, le)) high in
    let whole : HaveSameSums (take (last * 32 - first * 32) (drop (first * 32) values)) (take (last * 32 - first * 32) (drop (first * 32) sorted)) =
    same_by (take (last * 32 - first * 32) (drop (first * 32) values)) (take (last * 32 - first * 32) (drop (first * 32) sorted)) (run first (last - first) values) (run first (last - first) sorted)
    (sym (part_is first last values)) (sym (part_is first last sorted)) (run_same values sorted first (last - first) of (omega (arith, le, within))) in
    same_by (take (to - from) (drop from values))
    (take (first * 32 - from) (drop from values) ++ (take (last * 32 - first * 32) (drop (first * 32) sorted) ++ take (to - last * 32) (drop (last * 32) values)))
    (take (first * 32 - from) (drop from values) ++ (take (last * 32 - first * 32) (drop (first * 32) values) ++ take (to - last * 32) (drop (last * 32) values)))
    (take (first * 32 - from) (drop from values) ++ (take (last * 32 - first * 32) (drop (first * 32) sorted) ++ take (to - last * 32) (drop (last * 32) values)))
    (one ∙ ap (λ (zs : List ℤ). take (first * 32 - from) (drop from values) ++ zs) two) refl
    (same_append (take (first * 32 - from) (drop from values)) (take (first * 32 - from) (drop from values)) _ _ (λ (f : ℤ → ℕ). refl)
    (same_append (take (last * 32 - first * 32) (drop (first * 32) values)) (take (last * 32 - first * 32) (drop (first * 32) sorted))
    (take (to - last * 32) (drop (last * 32) values)) (take (to - last * 32) (drop (last * 32) values)) whole (λ (f : ℤ → ℕ). refl)))
