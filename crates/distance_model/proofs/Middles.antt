-- Exported: the middle of some values is the least whole number about which the sum of distances is least.
use Rattle.std.proofs.Common.{◌≡◌, ℕ, ℤ, zero, suc, pos, ◌+◌, ◌-◌, ◌*◌, ◌/◌, ◌^◌, ◌<◌, ◌≤◌, Bool, true, false, cond, List, [], ◌∷◌, length, get_or, sum_by, count_by, nat_abs, ◌+ℤ◌, ◌-ℤ◌, ◌≤ℤ◌, ◌<ℤ◌, refl, sym, ap, ◌∙◌, arith, inl, inr}
use Rattle.std.{specs.Prelude.int_le, specs.List.All, proofs.lemmas.Bool.cases_Bool, proofs.lemmas.Int.{ints, by_lt_z}, proofs.lemmas.Grind.common_steps}
use Rattle.std.proofs.{lemmas.List.Sums.{count_by-le-length, sum_by-append, sum_by-le}, lemmas.List.Elements.All-weaker, Math.Nat.{mul-add, mul-le-mul_left}}
use Rattle.segment_model.specs.{Limits.IsSmall, Values.{MergesValues, CostsInRange}}
use Rattle.distance_model.specs.Middles.{at_most, IsMiddle}
use Rattle.distance_model.specs.Distances.{distance, distances_about, IsAbsoluteCentre, in_place, in_order, middle_of, least_distances_of, MiddleIsCentre, CentreIsUnique, LeastIsComputed}

pub le_yes : (a b : ℤ) → int_le a b ≡ true → a ≤ℤ b
le_yes a b h = grind (arith, ints)

pub le_no : (a b : ℤ) → int_le a b ≡ false → b <ℤ a
le_no a b h = grind (arith, ints)

pub le_told : (a b : ℤ) → a ≤ℤ b → int_le a b ≡ true
le_told a b h = grind (arith, common_steps)

pub le_not_told : (a b : ℤ) → b <ℤ a → int_le a b ≡ false
le_not_told a b h = grind (arith, common_steps)

sum_cons : (f : ℤ → ℕ) (x : ℤ) (xs : List ℤ) → sum_by f (x ∷ xs) ≡ f x + sum_by f xs
sum_cons f x xs = let e : sum_by f (x ∷ xs) ≡ (0 + f x) + sum_by f xs = sum_by-append f (x ∷ []) xs in omega (arith, e)

count_cons : (p : ℤ → Bool) (x : ℤ) (xs : List ℤ) → count_by p (x ∷ xs) ≡ cond (p x) 1 0 + count_by p xs
count_cons p x xs = sum_cons (λ y. cond (p y) 1 0) x xs

-- one value more
pub most_yes : (c x : ℤ) (xs : List ℤ) → int_le x c ≡ true → at_most c (x ∷ xs) ≡ 1 + at_most c xs
most_yes c x xs h = count_cons (λ y. int_le y c) x xs ∙ rw h refl

pub most_no : (c x : ℤ) (xs : List ℤ) → int_le x c ≡ false → at_most c (x ∷ xs) ≡ at_most c xs
most_no c x xs h = grind (arith, common_steps)

-- ---- a middle is the centre

same_left : (n k k' : ℕ) → k' ≡ 1 + k → suc n - k' ≡ n - k
same_left n k k' h = omega (arith, h)

more_left : (n k k' : ℕ) → k ≤ n → k' ≡ k → suc n - k' ≡ 1 + (n - k)
more_left n k k' few h = omega (arith, few, h)

sum_up : (c d : ℤ) (e : ℕ) (xs : List ℤ) → d ≡ c +ℤ pos e → distances_about c xs + e * at_most c xs ≤ distances_about d xs + e * (length xs - at_most c xs)
sum_up c d e [] is = omega arith
sum_up c d e (x ∷ xs) is =
    let rest : distances_about c xs + e * at_most c xs ≤ distances_about d xs + e * (length xs - at_most c xs) = sum_up c d e xs is in
    let few : at_most c xs ≤ length xs = count_by-le-length (λ x. int_le x c) xs in
    let near : distances_about c (x ∷ xs) ≡ distance c x + distances_about c xs = sum_cons (distance c) x xs in
    let far : distances_about d (x ∷ xs) ≡ distance d x + distances_about d xs = sum_cons (distance d) x xs in
    elim (cases_Bool (int_le x c)) [
      | inl yes' ↦
          let k : x ≤ℤ c = le_yes x c yes' in
          let one : distance c x + e ≤ distance d x = omega (arith, ints, k, is) in
          let most : e * at_most c (x ∷ xs) ≡ e * (1 + at_most c xs) = ap (λ (n : ℕ). e * n) (most_yes c x xs yes') in
          let left : e * (length (x ∷ xs) - at_most c (x ∷ xs)) ≡ e * (length xs - at_most c xs) = ap (λ (n : ℕ). e * n) (same_left (length xs) (at_most c xs) (at_most c (x ∷ xs)) (most_yes c x xs yes')) in
          let more : e * (1 + at_most c xs) ≡ e * 1 + e * at_most c xs = mul-add e 1 (at_most c xs) in
          omega (arith, rest, one, most, left, more, near, far)
      | inr no' ↦
          let k : c <ℤ x = le_no x c no' in
          let one : distance c x ≤ distance d x + e = omega (arith, ints, k, is) in
          let most : e * at_most c (x ∷ xs) ≡ e * at_most c xs = ap (λ (n : ℕ). e * n) (most_no c x xs no') in
          let left : e * (length (x ∷ xs) - at_most c (x ∷ xs)) ≡ e * (1 + (length xs - at_most c xs)) = ap (λ (n : ℕ). e * n) (more_left (length xs) (at_most c xs) (at_most c (x ∷ xs)) few (most_no c x xs no')) in
          let more : e * (1 + (length xs - at_most c xs)) ≡ e * 1 + e * (length xs - at_most c xs) = mul-add e 1 (length xs - at_most c xs) in
          omega (arith, rest, one, most, left, more, near, far)
    ]

-- where d is e below c, by the values below c
sum_down : (c d : ℤ) (e : ℕ) (xs : List ℤ) → c ≡ d +ℤ pos e
    → distances_about c xs + e * (length xs - at_most (c -ℤ pos 1) xs) ≤ distances_about d xs + e * at_most (c -ℤ pos 1) xs
sum_down c d e [] is = omega arith
sum_down c d e (x ∷ xs) is =
    let rest : distances_about c xs + e * (length xs - at_most (c -ℤ pos 1) xs) ≤ distances_about d xs + e * at_most (c -ℤ pos 1) xs = sum_down c d e xs is in
    let few : at_most (c -ℤ pos 1) xs ≤ length xs = count_by-le-length (λ x. int_le x (c -ℤ pos 1)) xs in
    let near : distances_about c (x ∷ xs) ≡ distance c x + distances_about c xs = sum_cons (distance c) x xs in
    let far : distances_about d (x ∷ xs) ≡ distance d x + distances_about d xs = sum_cons (distance d) x xs in
    elim (cases_Bool (int_le x (c -ℤ pos 1))) [
      | inl yes' ↦
          let k : x ≤ℤ (c -ℤ pos 1) = le_yes x (c -ℤ pos 1) yes' in
          let one : distance c x ≤ distance d x + e = omega (arith, ints, k, is) in
          let most : e * at_most (c -ℤ pos 1) (x ∷ xs) ≡ e * (1 + at_most (c -ℤ pos 1) xs) = ap (λ (n : ℕ). e * n) (most_yes (c -ℤ pos 1) x xs yes') in
          let left : e * (length (x ∷ xs) - at_most (c -ℤ pos 1) (x ∷ xs)) ≡ e * (length xs - at_most (c -ℤ pos 1) xs) = ap (λ (n : ℕ). e * n) (same_left (length xs) (at_most (c -ℤ pos 1) xs) (at_most (c -ℤ pos 1) (x ∷ xs)) (most_yes (c -ℤ pos 1) x xs yes')) in
          let more : e * (1 + at_most (c -ℤ pos 1) xs) ≡ e * 1 + e * at_most (c -ℤ pos 1) xs = mul-add e 1 (at_most (c -ℤ pos 1) xs) in
          omega (arith, rest, one, most, left, more, near, far)
      | inr no' ↦
          let k : (c -ℤ pos 1) <ℤ x = le_no x (c -ℤ pos 1) no' in
          let one : distance c x + e ≤ distance d x = omega (arith, ints, k, is) in
          let most : e * at_most (c -ℤ pos 1) (x ∷ xs) ≡ e * at_most (c -ℤ pos 1) xs = ap (λ (n : ℕ). e * n) (most_no (c -ℤ pos 1) x xs no') in
          let left : e * (length (x ∷ xs) - at_most (c -ℤ pos 1) (x ∷ xs)) ≡ e * (1 + (length xs - at_most (c -ℤ pos 1) xs)) = ap (λ (n : ℕ). e * n) (more_left (length xs) (at_most (c -ℤ pos 1) xs) (at_most (c -ℤ pos 1) (x ∷ xs)) few (most_no (c -ℤ pos 1) x xs no')) in
          let more : e * (1 + (length xs - at_most (c -ℤ pos 1) xs)) ≡ e * 1 + e * (length xs - at_most (c -ℤ pos 1) xs) = mul-add e 1 (length xs - at_most (c -ℤ pos 1) xs) in
          omega (arith, rest, one, most, left, more, near, far)
    ]

up_to : (c d : ℤ) → c ≤ℤ d → d ≡ c +ℤ pos (nat_abs (d -ℤ c))
up_to c d h = omega (arith, ints, h)

not_less_above : (xs : List ℤ) (c d : ℤ) → IsMiddle xs c → c ≤ℤ d → distances_about c xs ≤ distances_about d xs
not_less_above xs c d m h =
    let sum : distances_about c xs + nat_abs (d -ℤ c) * at_most c xs ≤ distances_about d xs + nat_abs (d -ℤ c) * (length xs - at_most c xs) = sum_up c d (nat_abs (d -ℤ c)) xs (up_to c d h) in
    let more : nat_abs (d -ℤ c) * (length xs - at_most c xs) ≤ nat_abs (d -ℤ c) * at_most c xs = mul-le-mul_left (nat_abs (d -ℤ c)) (omega (arith, m.half)) in
    omega (arith, sum, more)

more_below : (xs : List ℤ) (c d : ℤ) → IsMiddle xs c → d <ℤ c → distances_about c xs < distances_about d xs
more_below xs c d m h =
    let some : 1 ≤ nat_abs (c -ℤ d) = omega (arith, ints, h) in
    let is : c ≡ d +ℤ pos (nat_abs (c -ℤ d)) = omega (arith, ints, h) in
    let sum : distances_about c xs + nat_abs (c -ℤ d) * (length xs - at_most (c -ℤ pos 1) xs) ≤ distances_about d xs + nat_abs (c -ℤ d) * at_most (c -ℤ pos 1) xs = sum_down c d (nat_abs (c -ℤ d)) xs is in
    let more : nat_abs (c -ℤ d) * (at_most (c -ℤ pos 1) xs + 1) ≤ nat_abs (c -ℤ d) * (length xs - at_most (c -ℤ pos 1) xs) = mul-le-mul_left (nat_abs (c -ℤ d)) (omega (arith, m.less)) in
    let apart : nat_abs (c -ℤ d) * (at_most (c -ℤ pos 1) xs + 1) ≡ nat_abs (c -ℤ d) * at_most (c -ℤ pos 1) xs + nat_abs (c -ℤ d) * 1 = mul-add (nat_abs (c -ℤ d)) (at_most (c -ℤ pos 1) xs) 1 in
    omega (arith, sum, more, apart, some)

le_of : (a b : ℕ) → a < b → a ≤ b
le_of a b h = omega arith

pub middle-centre : (xs : List ℤ) (c : ℤ) → IsMiddle xs c → IsAbsoluteCentre xs c
middle-centre xs c m = grind (arith, common_steps, by_lt_z, le_of, more_below, not_less_above)

clash : {P : Type 0} (a b : ℕ) → a < b → b ≤ a → P
clash a b h k = absurd (omega (arith, h, k))

pub centre-unique : CentreIsUnique
centre-unique xs c d one other =
    by_lt_z c d (λ below. clash (distances_about d xs) (distances_about c xs) (other.smallest c below) (one.least d))
    (λ above. by_lt_z d c (λ below. clash (distances_about c xs) (distances_about d xs) (one.smallest d below) (other.least c)) (λ also. omega (arith, ints, above, also)))

-- ---- the value in the middle of the values in order is a middle

count_placed : (p : ℤ → Bool) (x : ℤ) (ys : List ℤ) → count_by p (in_place x ys) ≡ cond (p x) 1 0 + count_by p ys
count_placed p x [] = count_cons p x []
count_placed p x (y ∷ ys) = grind (arith, common_steps, count_placed p x ys)

count_ordered : (p : ℤ → Bool) (xs : List ℤ) → count_by p (in_order xs) ≡ count_by p xs
count_ordered p [] = refl
count_ordered p (x ∷ xs) = count_placed p x (in_order xs) ∙ ap (λ (n : ℕ). cond (p x) 1 0 + n) (count_ordered p xs) ∙ sym (count_cons p x xs)

length_placed : (x : ℤ) (ys : List ℤ) → length (in_place x ys) ≡ suc (length ys)
length_placed x [] = refl
length_placed x (y ∷ ys) = grind (arith, common_steps, length_placed x ys)

length_ordered : (xs : List ℤ) → length (in_order xs) ≡ length xs
length_ordered [] = refl
length_ordered (x ∷ xs) = length_placed x (in_order xs) ∙ ap suc (length_ordered xs)

-- x is at most each of the values
IsBound : ℤ → List ℤ → Type 0
IsBound x [] = Unit {0}
IsBound x (y ∷ ys) = (x ≤ℤ y) × IsBound x ys

Rises : List ℤ → Type 0
Rises [] = Unit {0}
Rises (x ∷ xs) = IsBound x xs × Rises xs

le_trans : (a b c : ℤ) → a ≤ℤ b → b ≤ℤ c → a ≤ℤ c
le_trans a b c h k = omega (arith, ints, h, k)

bound_less : (x y : ℤ) (ys : List ℤ) → x ≤ℤ y → IsBound y ys → IsBound x ys
unfolding IsBound
bound_less x y [] h b = tt
bound_less x y (z ∷ ys) h b = (le_trans x y z h b.0, bound_less x y ys h b.1)

bound_placed : (y x : ℤ) (ys : List ℤ) → y ≤ℤ x → IsBound y ys → IsBound y (in_place x ys)
unfolding IsBound
bound_placed y x [] h b = (h, tt)
bound_placed y x (z ∷ ys) h b = grind (arith, common_steps, bound_placed y x ys h b.1)

below_of : (x y : ℤ) → y <ℤ x → y ≤ℤ x
below_of x y h = omega (arith, ints, h)

rises_placed : (x : ℤ) (ys : List ℤ) → Rises ys → Rises (in_place x ys)
unfolding Rises IsBound
rises_placed x [] r = (tt, tt)
rises_placed x (y ∷ ys) r = grind (arith, common_steps, cases_Bool, int_le, le_yes, bound_less, below_of, le_no, bound_placed, rises_placed x ys r.1)

rises_ordered : (xs : List ℤ) → Rises (in_order xs)
unfolding Rises
rises_ordered [] = tt
rises_ordered (x ∷ xs) = rises_placed x (in_order xs) (rises_ordered xs)

-- where all are at least y, all are at least the one at any place
bound_at : (y : ℤ) (ys : List ℤ) (i : ℕ) (d : ℤ) → IsBound y ys → i < length ys → y ≤ℤ get_or ys i d
unfolding IsBound
bound_at y [] i d b h = absurd (omega (arith, h))
bound_at y (z ∷ ys) zero d b h = b.0
bound_at y (z ∷ ys) (suc i) d b h = bound_at y ys i d b.1 (omega (arith, h))

none_below : (y c : ℤ) (ys : List ℤ) → IsBound y ys → c <ℤ y → at_most c ys ≡ 0
unfolding IsBound
none_below y c [] b h = refl
none_below y c (z ∷ ys) b h = grind (arith, common_steps, none_below y c ys b.1 h)

one_more : (t : Bool) (n i : ℕ) → n ≤ i → cond t 1 0 + n ≤ suc i
one_more true n i h = omega arith
one_more false n i h = omega arith

-- of values in order, those up to the one at i are at most it, and none from it on is below it
counts_at : (ys : List ℤ) (i : ℕ) (d : ℤ) → Rises ys → i < length ys → (i + 1 ≤ at_most (get_or ys i d) ys) × (at_most (get_or ys i d -ℤ pos 1) ys ≤ i)
unfolding Rises
counts_at [] i d r h = absurd (omega (arith, h))
counts_at (y ∷ ys) zero d r h =
    let itself : int_le y y ≡ true = le_told y y (omega (arith, ints)) in
    let not_below : int_le y (y -ℤ pos 1) ≡ false = le_not_told y (y -ℤ pos 1) (omega (arith, ints)) in
    let none' : at_most (y -ℤ pos 1) ys ≡ 0 = none_below y (y -ℤ pos 1) ys r.0 (omega (arith, ints)) in
    let one : at_most y (y ∷ ys) ≡ 1 + at_most y ys = most_yes y y ys itself in
    let two : at_most (y -ℤ pos 1) (y ∷ ys) ≡ at_most (y -ℤ pos 1) ys = most_no (y -ℤ pos 1) y ys not_below in
    (omega (arith, one), omega (arith, two, none'))
counts_at (y ∷ ys) (suc i) d r h =
    let rest = counts_at ys i d r.1 (omega (arith, h)) in
    let here : int_le y (get_or ys i d) ≡ true = le_told y (get_or ys i d) (bound_at y ys i d r.0 (omega (arith, h))) in
    let one : at_most (get_or ys i d) (y ∷ ys) ≡ 1 + at_most (get_or ys i d) ys = most_yes (get_or ys i d) y ys here in
    let two : at_most (get_or ys i d -ℤ pos 1) (y ∷ ys) ≡ cond (int_le y (get_or ys i d -ℤ pos 1)) 1 0 + at_most (get_or ys i d -ℤ pos 1) ys = count_cons (λ x. int_le x (get_or ys i d -ℤ pos 1)) y ys in
    (omega (arith, rest.0, one), rw two (one_more (int_le y (get_or ys i d -ℤ pos 1)) (at_most (get_or ys i d -ℤ pos 1) ys) i rest.1))

pub middle_is : (xs : List ℤ) → 0 < length xs → IsMiddle xs (middle_of xs)
unfolding middle_of
middle_is xs some =
    let n : length (in_order xs) ≡ length xs = length_ordered xs in
    let both = counts_at (in_order xs) ((length xs - 1) / 2) (pos 0) (rises_ordered xs) (omega (arith, n, some)) in
    let same = count_ordered (λ x. int_le x (get_or (in_order xs) ((length xs - 1) / 2) (pos 0))) xs in
    let also = count_ordered (λ x. int_le x (get_or (in_order xs) ((length xs - 1) / 2) (pos 0) -ℤ pos 1)) xs in
    record {
      half = omega (arith, both.0, same);
      less = omega (arith, both.1, also, some);
    }

pub middle-is-centre : MiddleIsCentre
middle-is-centre xs some = middle-centre xs (middle_of xs) (middle_is xs some)

-- ---- the least sum

pub least-at-most : (xs : List ℤ) (d : ℤ) → distances_about (middle_of xs) xs ≤ distances_about d xs
least-at-most [] d = omega arith
least-at-most (x ∷ xs) d = (middle-is-centre (x ∷ xs) (omega arith)).least d

at_most_z : (a b : ℕ) → a ≤ b → pos a ≤ℤ pos b
at_most_z a b h = omega (arith, ints, h)

pub least-computed : LeastIsComputed
unfolding least_distances_of
least-computed xs = grind (arith, common_steps, at_most_z, least-at-most)

pub distances-merge : MergesValues least_distances_of
unfolding least_distances_of
distances-merge xs ys = omega (arith, ints, least-at-most, sum_by-append)

small_distance : (x : ℤ) → IsSmall x → distance (pos 0) x ≤ 10 ^ 16
small_distance x h = omega (arith, ints, h)

pub distances-range : CostsInRange least_distances_of
unfolding least_distances_of
distances-range xs small few =
    let one : distances_about (middle_of xs) xs ≤ distances_about (pos 0) xs = least-at-most xs (pos 0) in
    let two : distances_about (pos 0) xs ≤ length xs * 10 ^ 16 = sum_by-le (distance (pos 0)) (10 ^ 16) xs (All-weaker IsSmall (λ (x : ℤ). distance (pos 0) x ≤ 10 ^ 16) small_distance xs small) in
    (omega (arith, ints), omega (arith, ints, one, two, few))

-- ---- what the code computes

-- the one middle
pub is_middle : (xs : List ℤ) (c : ℤ) → 0 < length xs → IsMiddle xs c → c ≡ middle_of xs
is_middle xs c some m = centre-unique xs (middle_of xs) c (middle-is-centre xs some) (middle-centre xs c m)

far : (c x : ℤ) → IsSmall c → IsSmall x → distance c x ≤ 2 * 10 ^ 16
far c x h k = omega (arith, ints, h, k)

-- the distances from a small number are few enough to add up
pub distances_fit : (c : ℤ) (xs : List ℤ) → IsSmall c → All IsSmall xs → length xs ≤ 65_536 → distances_about c xs ≤ 65_536 * (2 * 10 ^ 16)
distances_fit c xs low small few =
    let each : distances_about c xs ≤ length xs * (2 * 10 ^ 16) = sum_by-le (distance c) (2 * 10 ^ 16) xs (All-weaker IsSmall (λ (x : ℤ). distance c x ≤ 2 * 10 ^ 16) (λ (x : ℤ) (h : IsSmall x). far c x low h) xs small) in
    omega (arith, each, few)
