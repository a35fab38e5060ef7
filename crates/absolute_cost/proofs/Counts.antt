-- Counts and ends of values in order, and what two lists with the same sums share.
use Rattle.std.proofs.Common.{◌≡◌, ℕ, ℤ, zero, suc, pos, ◌+◌, ◌-◌, ◌*◌, ◌^◌, ◌<◌, ◌≤◌, Bool, true, false, cond, List, [], ◌∷◌, ◌++◌, length, take, drop, get_or, sum_by, count_by, nat_abs, ◌-ℤ◌, ◌≤ℤ◌, refl, sym, ap, ◌∙◌, subst, arith, inl, inr, leb}
use Rattle.std.specs.{Prelude.{int_le, int_lt}, Ordering.{int_cmp, is_lt}, List.All, List.Sorted.{IsSorted, IsPartitionedBy, IsPartitionPoint, IsPermutation}}
use borrow.Rule.Slice.PartMut.{put_mid}
use Rattle.std.proofs.lemmas.{Bool.{cases_Bool, le-leb, leb-true}, Int.ints, Cmp.int_cmp_total}
use Rattle.std.proofs.lemmas.List.{get_or-take, get_or-drop, take_rest, drop_all, length-drop, length-take-le, length-append, append-nil, drop_at, take_at}
use Rattle.std.proofs.lemmas.List.Elements.{All-append, All-from_get_or, All-nil, All-cons, All-head, All-tail, All-take, All-drop}
use Rattle.std.proofs.lemmas.List.{Sums.{sum_by-append, sum_by-cons}, Sorted.{sorted_far, ranks_by, sum_by-IsPermutation}}
use Rattle.segment_model.specs.Limits.{IsSmall}
use Rattle.distance_model.specs.{Middles.{at_most, IsMiddle}, Distances.{distance, distances_about, middle_of, least_distances_of}}
use Rattle.distance_model.proofs.Middles.{le_yes, le_told, is_middle, middle_is}
use Rattle.absolute_cost.specs.{Blocks.{AreInOrder, block, AreBlocks, HaveSameSums, IsSortedFrom, all_of}, Between.{AreWider, IsBetween}}
use Rattle.absolute_cost.{specs.declared.ends.Ends.Ends, proofs.Numbers.{not_above, still, wider}, proofs.Sorted.{one_more, block_length, same_by}}

-- ---- values in order

not_less : (a b : ℤ) → is_lt (int_cmp a b) ≡ false → b ≤ℤ a
not_less a b h = elim (cases_Bool (int_lt a b)) [
  | inl less ↦ absurd (let e : is_lt (int_cmp a b) ≡ true = rw less refl in cc)
  | inr no' ↦ grind (arith, ints)
]

-- what a sort ensures
pub in_order : (xs : List ℤ) → IsSorted int_cmp xs → AreInOrder xs
in_order xs up i j d le within =
    not_less (get_or xs j d) (get_or xs i d) (sorted_far (λ (x : ℤ) (y : ℤ). is_lt (int_cmp x y)) (ranks_by int_cmp_total (λ (x : ℤ). x)) xs up i j d le within)

up_to : (a b c : ℤ) → a ≤ℤ b → b ≤ℤ c → a ≤ℤ c
up_to a b c h k = omega (arith, ints, h, k)

-- a list, after its part from an index on was put in order
pub sorted_from : (start : ℕ) (xs ys : List ℤ) → start ≤ length xs → IsPermutation (take (length xs - start) (drop start xs)) ys → length ys ≡ length (take (length xs - start) (drop start xs))
    → IsSorted int_cmp ys → IsSortedFrom start xs (put_mid start (length xs - start) xs ys)
sorted_from start xs ys le shuffled long up =
    let part : take (length xs - start) (drop start xs) ≡ drop start xs = take_rest xs start in
    let size : length (take (length xs - start) (drop start xs)) ≡ length (drop start xs) = ap length part in
    let none' : drop (length xs - start) (drop start xs) ≡ [] = drop_all (length xs - start) (drop start xs) (omega (arith, length-drop start xs)) in
    let n : length (take start xs) ≡ start = length-take-le start xs le in
    let whole : put_mid start (length xs - start) xs ys ≡ take start xs ++ ys =
    ap (λ (zs : List ℤ). take start xs ++ (ys ++ zs)) none' ∙ ap (λ (zs : List ℤ). take start xs ++ zs) (append-nil ys) in
    let back : drop start (take start xs ++ ys) ≡ ys = drop_at (take start xs) ys start n in
    subst (λ (zs : List ℤ). IsSortedFrom start xs zs) (sym whole) (record {
      count = omega (arith, length-append (take start xs) ys, n, long, size, length-drop start xs, le);
      front = take_at (take start xs) ys start n;
      same = same_by (drop start xs) (drop start (take start xs ++ ys)) (take (length xs - start) (drop start xs)) ys (sym part) back
          (λ (f : ℤ → ℕ). sym (sum_by-IsPermutation f (take (length xs - start) (drop start xs)) ys shuffled));
      ordered = subst AreInOrder (sym back) (in_order ys up);
    })

-- what a search among them asks
pub parted : (c : ℤ) (xs : List ℤ) → AreInOrder xs → IsPartitionedBy (λ (x : ℤ). int_le x c) xs
parted c xs order i j d le within h =
    le_told (get_or xs i d) c (up_to (get_or xs i d) (get_or xs j d) c (order i j d le within) (le_yes (get_or xs j d) c h))

one_if : Bool → ℕ
one_if b = cond b 1 0

-- and what it finds
pub counted : (p : ℤ → Bool) (xs : List ℤ) (i : ℕ) → i ≤ length xs → IsPartitionPoint (λ (x : ℤ). p x ≡ true) (λ (x : ℤ). p x ≡ false) xs i → count_by p xs ≡ i
unfolding one_if
counted p [] i le at = omega (arith, le)
counted p (x ∷ xs) zero le at =
    let here : p x ≡ false = at.1 0 x (omega arith) (omega arith) in
    let rest : count_by p xs ≡ 0 = counted p xs 0 (omega arith) (λ k d l lt. absurd (omega (arith, lt)), λ k d l lt. at.1 (suc k) d (omega arith) (omega (arith, lt))) in
    let sum : count_by p (x ∷ xs) ≡ one_if (p x) + count_by p xs = sum_by-cons (λ (y : ℤ). cond (p y) 1 0) x xs in
    let one : one_if (p x) ≡ 0 = ap one_if here in
    omega (arith, sum, one, rest)
counted p (x ∷ xs) (suc i) le at =
    let here : p x ≡ true = at.0 0 x (omega arith) (omega arith) in
    let rest : count_by p xs ≡ i = counted p xs i (omega (arith, le)) (λ k d l lt. at.0 (suc k) d (omega arith) (omega (arith, lt)), λ k d l lt. at.1 (suc k) d (omega (arith, l)) (omega (arith, lt))) in
    let sum : count_by p (x ∷ xs) ≡ one_if (p x) + count_by p xs = sum_by-cons (λ (y : ℤ). cond (p y) 1 0) x xs in
    let one : one_if (p x) ≡ 1 = ap one_if here in
    omega (arith, sum, one, rest)

-- with the values of one block more
pub count_more : (c : ℤ) (k count here : ℕ) (xs : List ℤ) → count ≡ at_most c (take (32 * k) xs) → here ≡ at_most c (block k xs) → count + here ≡ at_most c (take (32 * (k + 1)) xs)
count_more c k count here xs before one =
    let sum : at_most c (take (32 * k) xs ++ block k xs) ≡ at_most c (take (32 * k) xs) + at_most c (block k xs) = sum_by-append (λ (x : ℤ). cond (int_le x c) 1 0) (take (32 * k) xs) (block k xs) in
    let all : at_most c (take (32 * (k + 1)) xs) ≡ at_most c (take (32 * k) xs ++ block k xs) = ap (at_most c) (one_more k xs) in
    omega (arith, before, one, sum, all)

-- ---- ends

-- with one block more, whose least and greatest value lie between the ends
pub blocks_more : (k : ℕ) (e f : Ends) (xs : List ℤ) → AreBlocks xs → 32 * k + 32 ≤ length xs → All (IsBetween e) (take (32 * k) xs) → AreWider e f → f.least ≤ℤ get_or xs (32 * k) (pos 0)
    → get_or xs (32 * k + 31) (pos 0) ≤ℤ f.greatest → All (IsBetween f) (take (32 * (k + 1)) xs)
blocks_more k e f xs blocks fits all wide low high =
    let order = blocks.ordered k fits in
    let full : length (block k xs) ≡ 32 = block_length k xs fits in
    let first : get_or (block k xs) 0 (pos 0) ≡ get_or xs (32 * k) (pos 0) =
    get_or-take 32 (drop (32 * k) xs) 0 (pos 0) (omega arith) ∙ get_or-drop (32 * k) xs 0 (pos 0) ∙ ap (λ (n : ℕ). get_or xs n (pos 0)) (omega arith) in
    let last : get_or (block k xs) 31 (pos 0) ≡ get_or xs (32 * k + 31) (pos 0) =
    get_or-take 32 (drop (32 * k) xs) 31 (pos 0) (omega arith) ∙ get_or-drop (32 * k) xs 31 (pos 0) in
    let low' : f.least ≤ℤ get_or (block k xs) 0 (pos 0) = subst (λ (z : ℤ). f.least ≤ℤ z) (sym first) low in
    let high' : get_or (block k xs) 31 (pos 0) ≤ℤ f.greatest = subst (λ (z : ℤ). z ≤ℤ f.greatest) (sym last) high in
    let new : All (IsBetween f) (block k xs) = All-from_get_or (IsBetween f) (block k xs) (pos 0) (λ (i : ℕ) (lt : i < length (block k xs)). (
      not_above f.least (get_or (block k xs) 0 (pos 0)) (get_or (block k xs) i (pos 0)) low' (order 0 i (pos 0) (omega arith) lt),
      not_above (get_or (block k xs) i (pos 0)) (get_or (block k xs) 31 (pos 0)) f.greatest (order i 31 (pos 0) (omega (arith, lt, full)) (omega (arith, full))) high',
    )) in
    subst (λ (zs : List ℤ). All (IsBetween f) zs) (sym (one_more k xs)) (All-append (IsBetween f) (take (32 * k) xs) (block k xs) (still e f wide (take (32 * k) xs) all) new)

-- ---- the same sums

length_sum : (xs : List ℤ) → sum_by (λ (x : ℤ). 1) xs ≡ length xs
length_sum [] = refl
length_sum (x ∷ xs) = omega (arith, sum_by-cons (λ (y : ℤ). 1) x xs, length_sum xs)

pub same_length : (xs ys : List ℤ) → HaveSameSums xs ys → length ys ≡ length xs
same_length xs ys same = omega (arith, length_sum xs, length_sum ys, same (λ (x : ℤ). 1))

large : ℤ → ℕ
large x = cond (leb (nat_abs x) (10 ^ 16)) 0 1

none_large : (xs : List ℤ) → All IsSmall xs → sum_by large xs ≡ 0
unfolding large
none_large [] small = refl
none_large (x ∷ xs) small =
    let here : IsSmall x = All-head IsSmall x xs small in
    let one : large x ≡ 0 = ap (λ (b : Bool). cond b 0 1) (le-leb (nat_abs x) (10 ^ 16) here) in
    omega (arith, sum_by-cons large x xs, one, none_large xs (All-tail IsSmall x xs small))

not_large : (x : ℤ) → large x ≡ 0 → IsSmall x
unfolding large
not_large x h = elim (cases_Bool (leb (nat_abs x) (10 ^ 16))) [
  | inl yes' ↦ leb-true (nat_abs x) (10 ^ 16) yes'
  | inr no' ↦ absurd (let e : large x ≡ 1 = ap (λ (b : Bool). cond b 0 1) no' in omega (arith, e, h))
]

all_small : (xs : List ℤ) → sum_by large xs ≡ 0 → All IsSmall xs
all_small [] h = All-nil IsSmall
all_small (x ∷ xs) h =
    let sum = sum_by-cons large x xs in
    All-cons IsSmall x xs (not_large x (omega (arith, sum, h))) (all_small xs (omega (arith, sum, h)))

pub same_small : (xs ys : List ℤ) → HaveSameSums xs ys → All IsSmall xs → All IsSmall ys
same_small xs ys same small = all_small ys (sym (same large) ∙ none_large xs small)

pub same_middle : (xs ys : List ℤ) → 0 < length xs → HaveSameSums xs ys → middle_of ys ≡ middle_of xs
same_middle xs ys some same =
    let n : length ys ≡ length xs = same_length xs ys same in
    let is : IsMiddle ys (middle_of ys) = middle_is ys (omega (arith, n, some)) in
    is_middle xs (middle_of ys) some (record {
      half = omega (arith, is.half, n, same (λ (x : ℤ). cond (int_le x (middle_of ys)) 1 0));
      less = omega (arith, is.less, n, same (λ (x : ℤ). cond (int_le x (middle_of ys -ℤ pos 1)) 1 0));
    })

pub same_distances : (xs ys : List ℤ) → 0 < length xs → HaveSameSums xs ys → pos (distances_about (middle_of ys) ys) ≡ least_distances_of xs
unfolding least_distances_of
same_distances xs ys some same =
    ap (λ (n : ℕ). pos n) (sym (same (distance (middle_of ys)))) ∙ ap (λ (c : ℤ). pos (distances_about c xs)) (same_middle xs ys some same)

-- ---- three pieces, one after the other

pub in_head : (P : ℤ → Type 0) (h w t : List ℤ) → All P (all_of h w t) → All P h
in_head P h w t all = subst (λ (zs : List ℤ). All P zs) (take_at h (w ++ t) (length h) refl) (All-take P (length h) (h ++ (w ++ t)) all)

in_rest : (P : ℤ → Type 0) (xs ys : List ℤ) → All P (xs ++ ys) → All P ys
in_rest P xs ys all = subst (λ (zs : List ℤ). All P zs) (drop_at xs ys (length xs) refl) (All-drop P (length xs) (xs ++ ys) all)

pub in_whole : (P : ℤ → Type 0) (h w t : List ℤ) → All P (all_of h w t) → All P w
in_whole P h w t all = subst (λ (zs : List ℤ). All P zs) (take_at w t (length w) refl) (All-take P (length w) (w ++ t) (in_rest P h (w ++ t) all))

pub in_tail : (P : ℤ → Type 0) (h w t : List ℤ) → All P (all_of h w t) → All P t
in_tail P h w t all = in_rest P w t (in_rest P h (w ++ t) all)

pub between_parts : (h w t : List ℤ) (e f g : Ends) → All (IsBetween e) t → AreWider e f → All (IsBetween f) w → AreWider f g → All (IsBetween g) h → All (IsBetween g) (all_of h w t)
between_parts h w t e f g tail one whole two head =
    All-append (IsBetween g) h (w ++ t) head (All-append (IsBetween g) w t (still f g two w whole) (still e g (wider e f g one two) t tail))

pub sum_parts : (f : ℤ → ℕ) (h w t : List ℤ) → sum_by f (all_of h w t) ≡ sum_by f h + sum_by f w + sum_by f t
sum_parts f h w t = omega (arith, sum_by-append f h (w ++ t), sum_by-append f w t)

pub count_parts : (c : ℤ) (h w t : List ℤ) → at_most c (all_of h w t) ≡ at_most c h + at_most c w + at_most c t
count_parts c h w t = sum_parts (λ (x : ℤ). cond (int_le x c) 1 0) h w t

pub distance_parts : (c : ℤ) (h w t : List ℤ) → distances_about c (all_of h w t) ≡ distances_about c h + distances_about c w + distances_about c t
distance_parts c h w t = sum_parts (distance c) h w t

-- the sum of the distances of three pieces
module _ (c : ℤ) (h w t : List ℤ) where
  pub parts_fit : distances_about c (all_of h w t) < 2 ^ 128 → (distances_about c h < 2 ^ 128) × (distances_about c w < 2 ^ 128) × (distances_about c t < 2 ^ 128)
  parts_fit all = let parts = distance_parts c h w t in (omega (arith, parts, all), omega (arith, parts, all), omega (arith, parts, all))

  pub two_fit : distances_about c (all_of h w t) < 2 ^ 128 → (a b : ℕ) → a ≡ distances_about c h → b ≡ distances_about c w → a + b < 2 ^ 128
  two_fit all a b one two = omega (arith, distance_parts c h w t, all, one, two)

  pub three_add : (a b d : ℕ) → a ≡ distances_about c h → b ≡ distances_about c w → d ≡ distances_about c t → a + b + d ≡ distances_about c (all_of h w t)
  three_add a b d one two three = omega (arith, distance_parts c h w t, one, two, three)
