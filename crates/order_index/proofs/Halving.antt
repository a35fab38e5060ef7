-- What is found by halving among declarations whose numbers rise.
use Rattle.std.proofs.Common.{◌≡◌, ◌≤◌, ◌<◌, ℕ, zero, suc, Bool, true, false, cond, List, [], ◌∷◌, ◌++◌, filter, length, take, drop, find, Some, None, refl, sym, ap, ◌∙◌, subst, arith, inl, inr, ◌⊎◌, nat_eq, Less}
use Rattle.std.specs.{Prelude.{slice_get, is_some}, List.{list_any, AllByRecursion}, List.Sorted.IsStrictlySortedBy, Ordering.nat_cmp}
use Rattle.std.proofs.lemmas.{Bool.{cases_Bool, false≢true, eqb-true, eq-eqb, ne_eqb, lt-ltb}, List.take_all}
use Rattle.history_model.specs.{declared.entries.Declaration.Declaration, Commits.{has_number, name_in, numbers_between}}
use Rattle.order_index.specs.{Between.is_between, Kept.{AreAbove, AreBelow, AreFrom, IsRising, numbers_of}}
use Rattle.order_index.proofs.BetweenKeys.{between-from, between-to, between-of}

-- what holds of all holds of the one at a place
at-place : (P : Declaration → Type 0) (ds : List Declaration) (i : ℕ) (d : Declaration) → slice_get ds i ≡ Some d → AllByRecursion P ds → P d
at-place P [] i d is all = absurd (cc)
at-place P (e ∷ ds) zero d is all = let same : e ≡ d = cc in rw (sym same) all.0
at-place P (e ∷ ds) (suc i) d is all = at-place P ds i d is all.1

all-from : (P Q : Declaration → Type 0) (ds : List Declaration) → ((d : Declaration) → P d → Q d) → AllByRecursion P ds → AllByRecursion Q ds
all-from P Q [] so all = tt
all-from P Q (d ∷ ds) so all = (so d all.0, all-from P Q ds so all.1)

number-same : (d e : Declaration) → Some e ≡ Some d → e.number ≡ d.number
number-same d e is = let same : e ≡ d = cc in ap (λ (x : Declaration). x.number) same

-- ---- a number that is compared with the one at a place
pub below-taken : (number : ℕ) (ds : List Declaration) (i : ℕ) (d : Declaration) → IsRising ds → slice_get ds i ≡ Some d → d.number < number → AreBelow number (take (suc i) ds)
below-taken number [] i d rises is lt = tt
below-taken number (e ∷ ds) zero d rises is lt = (let same = number-same d e is in omega (arith, same, lt), tt)
below-taken number (e ∷ ds) (suc i) d rises is lt =
    (let less = at-place (λ x. e.number < x.number) ds i d is rises.0 in omega (arith, less, lt), below-taken number ds i d rises.1 is lt)

pub from-dropped : (number : ℕ) (ds : List Declaration) (i : ℕ) (d : Declaration) → IsRising ds → slice_get ds i ≡ Some d → number ≤ d.number → AreFrom number (drop i ds)
from-dropped number [] i d rises is le = absurd (cc)
from-dropped number (e ∷ ds) zero d rises is le =
    let same = number-same d e is in
    (omega (arith, same, le), all-from (λ x. e.number < x.number) (λ x. number ≤ x.number) ds (λ x lt. omega (arith, lt, same, le)) rises.0)
from-dropped number (e ∷ ds) (suc i) d rises is le = from-dropped number ds i d rises.1 is le

-- the one at a place, and those after it
pub from-next : (number : ℕ) (ds : List Declaration) (i : ℕ) (d : Declaration) → slice_get ds i ≡ Some d → AreFrom number (drop i ds)
    → (number ≤ d.number) × AreFrom number (drop (suc i) ds)
from-next number [] i d is from = absurd (cc)
from-next number (e ∷ ds) zero d is from = (let same = number-same d e is in omega (arith, same, from.0), from.1)
from-next number (e ∷ ds) (suc i) d is from = from-next number ds i d is from

-- ---- the declaration of a number
pub none-below : (number : ℕ) (ds : List Declaration) → AreBelow number ds → find (has_number number) ds ≡ None
none-below number [] below = refl
none-below number (e ∷ ds) below = rw (ne_eqb e.number number (λ same. omega (arith, same, below.0))) (none-below number ds below.1)

pub none-there : (number : ℕ) (ds : List Declaration) (i : ℕ) → AreBelow number (take i ds) → length ds ≤ i → find (has_number number) ds ≡ None
none-there number ds i below le = let P : List Declaration → Type 0 = λ es. AreBelow number es in none-below number ds (subst P (take_all i ds le) below)

none-above : (number : ℕ) (ds : List Declaration) → AreAbove number ds → find (has_number number) ds ≡ None
none-above number [] above = refl
none-above number (e ∷ ds) above = rw (ne_eqb e.number number (λ same. omega (arith, same, above.0))) (none-above number ds above.1)

pub found-there : (number : ℕ) (ds : List Declaration) (i : ℕ) (d : Declaration) → AreBelow number (take i ds) → slice_get ds i ≡ Some d → d.number ≡ number → find (has_number number) ds ≡ Some d
found-there number [] i d below is same = absurd (cc)
found-there number (e ∷ ds) zero d below is same = rw (eq-eqb e.number number (number-same d e is ∙ same)) is
found-there number (e ∷ ds) (suc i) d below is same =
    rw (ne_eqb e.number number (λ eq. omega (arith, eq, below.0))) (found-there number ds i d below.1 is same)

pub found-none : (number : ℕ) (ds : List Declaration) (i : ℕ) (d : Declaration) → IsRising ds → AreBelow number (take i ds) → slice_get ds i ≡ Some d → number < d.number → find (has_number number) ds ≡ None
found-none number [] i d rises below is lt = refl
found-none number (e ∷ ds) zero d rises below is lt =
    let same = number-same d e is in
    rw (ne_eqb e.number number (λ eq. omega (arith, eq, same, lt)))
    (none-above number ds (all-from (λ x. e.number < x.number) (λ x. number < x.number) ds (λ x less. omega (arith, less, same, lt)) rises.0))
found-none number (e ∷ ds) (suc i) d rises below is lt =
    rw (ne_eqb e.number number (λ eq. omega (arith, eq, below.0))) (found-none number ds i d rises.1 below.1 is lt)

-- none before a place has the number that stands there
pub none-before : (ds : List Declaration) (i : ℕ) (d : Declaration) → IsRising ds → slice_get ds i ≡ Some d → find (has_number d.number) (take i ds) ≡ None
none-before [] i d rises is = absurd (cc)
none-before (e ∷ ds) zero d rises is = refl
none-before (e ∷ ds) (suc i) d rises is =
    let less = at-place (λ x. e.number < x.number) ds i d is rises.0 in
    rw (ne_eqb e.number d.number (λ eq. omega (arith, eq, less))) (none-before ds i d rises.1 is)

pub taken-more : (ds : List Declaration) (i : ℕ) (d : Declaration) → slice_get ds i ≡ Some d → take (suc i) ds ≡ take i ds ++ d ∷ []
taken-more [] i d is = absurd (cc)
taken-more (e ∷ ds) zero d is = let same : e ≡ d = cc in ap (λ x. x ∷ []) same
taken-more (e ∷ ds) (suc i) d is = ap (λ xs. e ∷ xs) (taken-more ds i d is)

-- ---- a declaration more
pub rising-push : (ds : List Declaration) (d : Declaration) → IsRising ds → AreBelow d.number ds → IsRising (ds ++ d ∷ [])
rising-push [] d rises below = (tt, tt)
rising-push (e ∷ ds) d rises below = (all-push (λ x. e.number < x.number) ds d rises.0 below.0, rising-push ds d rises.1 below.1)
  where
    all-push : (P : Declaration → Type 0) (ds : List Declaration) (d : Declaration) → AllByRecursion P ds → P d → AllByRecursion P (ds ++ d ∷ [])
    all-push P [] d all last = (last, tt)
    all-push P (e ∷ ds) d all last = (all.0, all-push P ds d all.1 last)

pub rising-pop : (ds : List Declaration) (d : Declaration) → IsRising (ds ++ d ∷ []) → IsRising ds
rising-pop [] d rises = tt
rising-pop (e ∷ ds) d rises = (all-front (λ x. e.number < x.number) ds rises.0, rising-pop ds d rises.1)
  where
    all-front : (P : Declaration → Type 0) (ds : List Declaration) → AllByRecursion P (ds ++ d ∷ []) → AllByRecursion P ds
    all-front P [] all = tt
    all-front P (e ∷ ds) all = (all.0, all-front P ds all.1)

-- ---- the numbers from one to another
module _ (lo hi : ℕ) where
  not-between : (n : ℕ) → (n < lo) ⊎ (hi < n) → is_between lo hi n ≡ false
  not-between n out = elim (cases_Bool (is_between lo hi n)) [
    | inl kept ↦ (let range = between-from lo hi n kept in absurd (elim out [ inl low ↦ omega (arith, low, range.0) | inr high ↦ omega (arith, high, range.1) ]))
    | inr gone ↦ gone
  ]

  pub kept-none_below : (ds : List Declaration) → AreBelow lo ds → filter (is_between lo hi) (numbers_of ds) ≡ []
  kept-none_below [] below = refl
  kept-none_below (e ∷ ds) below = rw (not-between e.number (inl below.0)) (kept-none_below ds below.1)

  kept-none_above : (ds : List Declaration) → AreAbove hi ds → filter (is_between lo hi) (numbers_of ds) ≡ []
  kept-none_above [] above = refl
  kept-none_above (e ∷ ds) above = rw (not-between e.number (inr above.0)) (kept-none_above ds above.1)

  pub kept-more : (ds : List Declaration) (i : ℕ) (d : Declaration) → slice_get ds i ≡ Some d → lo ≤ d.number → d.number ≤ hi
      → filter (is_between lo hi) (numbers_of (take (suc i) ds)) ≡ filter (is_between lo hi) (numbers_of (take i ds)) ++ d.number ∷ []
  kept-more [] i d is low high = absurd (cc)
  kept-more (e ∷ ds) zero d is low high =
      let same = number-same d e is in
      rw (between-to lo hi e.number (omega (arith, same, low)) (omega (arith, same, high))) (ap (λ n. n ∷ []) same)
  kept-more (e ∷ ds) (suc i) d is low high =
      at (is_between lo hi e.number) _ (filter (is_between lo hi) (numbers_of (take i ds))) d.number (kept-more ds i d is low high)
    where
      at : (t : Bool) (xs ys : List ℕ) (n : ℕ) → xs ≡ ys ++ n ∷ [] → cond t (e.number ∷ xs) xs ≡ cond t (e.number ∷ ys) ys ++ n ∷ []
      at true xs ys n same = ap (λ ns. e.number ∷ ns) same
      at false xs ys n same = same

  pub kept-all : (ds : List Declaration) (i : ℕ) (d : Declaration) → IsRising ds → slice_get ds i ≡ Some d → hi < d.number
      → filter (is_between lo hi) (numbers_of (take i ds)) ≡ filter (is_between lo hi) (numbers_of ds)
  kept-all [] i d rises is high = absurd (cc)
  kept-all (e ∷ ds) zero d rises is high =
      let same = number-same d e is in
      sym (kept-none_above (e ∷ ds) (omega (arith, same, high), all-from (λ x. e.number < x.number) (λ x. hi < x.number) ds (λ x less. omega (arith, less, same, high)) rises.0))
  kept-all (e ∷ ds) (suc i) d rises is high = ap (λ ns. cond (is_between lo hi e.number) (e.number ∷ ns) ns) (kept-all ds i d rises.1 is high)

-- ---- all, by the last one
pub all-below : (number : ℕ) (ds : List Declaration) (i : ℕ) (d : Declaration) → IsRising ds → slice_get ds i ≡ Some d → d.number < number → length ds ≤ suc i → AreBelow number ds
all-below number ds i d rises is lt le =
    let P : List Declaration → Type 0 = λ es. AreBelow number es in
    subst P (take_all (suc i) ds le) (below-taken number ds i d rises is lt)

-- ---- rising numbers from one to another
numbers-named : (n : ℕ) (ds : List Declaration) → is_some (name_in n ds) ≡ list_any (nat_eq n) (numbers_of ds)
numbers-named n [] = refl
numbers-named n (e ∷ ds) = elim (cases_Bool (nat_eq e.number n)) [
  | inl hit ↦ rw (hit, eq-eqb n e.number (sym (eqb-true e.number n hit))) refl
  | inr miss ↦ rw (miss, ne_eqb n e.number (λ same. false≢true (sym miss ∙ eq-eqb e.number n (sym same)))) (numbers-named n ds)
]

less-all : (k : ℕ) (ds : List Declaration) → AreAbove k ds → AllByRecursion (λ n. nat_cmp k n ≡ Less) (numbers_of ds)
less-all k [] above = tt
less-all k (e ∷ ds) above = (rw (lt-ltb k e.number above.0) refl, less-all k ds above.1)

sorted-numbers : (ds : List Declaration) → IsRising ds → IsStrictlySortedBy nat_cmp (numbers_of ds)
unfolding IsStrictlySortedBy
sorted-numbers [] rises = tt
sorted-numbers (e ∷ ds) rises = (less-all e.number ds rises.0, sorted-numbers ds rises.1)

pub rising-between : (ds : List Declaration) (lo hi : ℕ) → lo ≤ hi → IsRising ds → filter (is_between lo hi) (numbers_of ds) ≡ numbers_between lo hi ds
rising-between ds lo hi le rises = between-of (numbers_of ds) ds lo hi le (sorted-numbers ds rises) (λ n. numbers-named n ds)
