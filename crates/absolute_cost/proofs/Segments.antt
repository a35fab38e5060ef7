-- The values of a segment as a part of all values.
use Rattle.std.proofs.Common.{◌≡◌, ℕ, ℤ, ◌+◌, ◌-◌, ◌≤◌, List, [], ◌∷◌, ◌++◌, length, take, drop, refl, sym, ap, ◌∙◌, arith}
use Rattle.std.proofs.lemmas.List.{length-append, take_all}
use Rattle.segment_model.specs.Values.{joined, values_between, ValuesHaveParts}

take_front : (xs ys : List ℤ) → take (length xs) (xs ++ ys) ≡ xs
take_front [] ys = refl
take_front (x ∷ xs) ys = ap (λ (zs : List ℤ). x ∷ zs) (take_front xs ys)

drop_front : (xs ys : List ℤ) → drop (length xs) (xs ++ ys) ≡ ys
drop_front [] ys = refl
drop_front (x ∷ xs) ys = drop_front xs ys

whole_is : (positions : List (List ℤ)) → values_between positions 0 (length positions) ≡ joined positions
whole_is positions = ap joined (take_all (length positions - 0) positions (omega arith))

-- all values are those up to a place and those behind it
front_and_rest : ValuesHaveParts → (positions : List (List ℤ)) (k : ℕ) → k ≤ length positions
    → joined positions ≡ values_between positions 0 k ++ values_between positions k (length positions)
front_and_rest parts positions k le = sym (whole_is positions) ∙ parts positions 0 k (length positions) (omega arith) le

pub counts_rise : ValuesHaveParts → (positions : List (List ℤ)) (s t : ℕ) → s ≤ t
    → length (values_between positions 0 t) ≡ length (values_between positions 0 s) + length (values_between positions s t)
counts_rise parts positions s t le =
    ap length (parts positions 0 s t (omega arith) le) ∙ length-append (values_between positions 0 s) (values_between positions s t)

pub counts_within : ValuesHaveParts → (positions : List (List ℤ)) (t : ℕ) → t ≤ length positions → length (values_between positions 0 t) ≤ length (joined positions)
counts_within parts positions t le =
    omega (arith, ap length (front_and_rest parts positions t le) ∙ length-append (values_between positions 0 t) (values_between positions t (length positions)))

pub part_is : ValuesHaveParts → (positions : List (List ℤ)) (s t from to : ℕ) → s ≤ t → t ≤ length positions
    → from ≡ length (values_between positions 0 s) → to ≡ length (values_between positions 0 t)
    → take (to - from) (drop from (joined positions)) ≡ values_between positions s t
part_is parts positions s t from to le fits from_is to_is =
    let rest : joined positions ≡ values_between positions 0 s ++ values_between positions s (length positions) = front_and_rest parts positions s (omega arith) in
    let split : values_between positions s (length positions) ≡ values_between positions s t ++ values_between positions t (length positions) = parts positions s t (length positions) le fits in
    let width : to - from ≡ length (values_between positions s t) = omega (arith, counts_rise parts positions s t le, from_is, to_is) in
    rw (width, from_is, rest, drop_front, split) (take_front (values_between positions s t) (values_between positions t (length positions)))

pub front_is : ValuesHaveParts → (positions : List (List ℤ)) (k count : ℕ) → k ≤ length positions → count ≡ length (values_between positions 0 k)
    → take count (joined positions) ≡ joined (take k positions)
front_is parts positions k count le is =
    let e : k - 0 ≡ k = omega arith in
    let same : values_between positions 0 k ≡ joined (take k positions) = ap (λ (n : ℕ). joined (take n positions)) e in
    rw (is, front_and_rest parts positions k le, take_front) same
