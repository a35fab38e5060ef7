-- How the count of open bisections changes with one of them, and which one asks a place.
use Rattle.std.proofs.Common.{◌≡◌, ℕ, zero, suc, ◌+◌, ◌-◌, ◌≤◌, Bool, true, false, cond, not, List, [], ◌∷◌, ◌++◌, length, set, get_or, Option, Some, None, refl, sym, subst, ap, ◌∙◌, arith, eq-eqb, ne_eqb}
use Rattle.std.{specs.Prelude.{◌==◌, filter}, proofs.lemmas.Option.get_or_from_slice_get, specs.List.slice_get}
use Rattle.follow_index.specs.Numbered.{open_from, open_numbers, GoesOn}
use Rattle.bisect_core.specs.{Bisections.{Bisection, IsRecorded, is_open, asked_by, answer_to}, Turns.Turn, declared.outcome.Outcome.Outcome}
use Rattle.bisect_core.specs.declared.outcome.{Outcome.TheVariants.{Asks, Found, Undecided, Faulted}, Answered.Answered}
use Rattle.bisect_core.specs.declared.outcome.Answered.TheVariants as answered
use Rattle.history_model.specs.Jobs.{job_in, place_asked, is_under_way, open_count}

pub counted : (x : Bisection) (xs : List Bisection) → open_count (x ∷ xs) ≡ open_count (x ∷ []) + open_count xs
counted x xs = by (is_under_way x) refl
  where
    by : (b : Bool) → is_under_way x ≡ b → open_count (x ∷ xs) ≡ open_count (x ∷ []) + open_count xs
    by true is = rw is (omega arith)
    by false is = rw is (omega arith)

pub one_more : (xs : List Bisection) (x : Bisection) → open_count (xs ++ x ∷ []) ≡ open_count xs + open_count (x ∷ [])
one_more [] x = omega arith
one_more (y ∷ xs) x = omega (arith, counted y (xs ++ x ∷ []), counted y xs, one_more xs x)

pub at_most : (x : Bisection) → open_count (x ∷ []) ≤ 1
at_most x = by (is_under_way x) refl
  where
    by : (b : Bool) → is_under_way x ≡ b → open_count (x ∷ []) ≤ 1
    by true is = rw is (omega arith)
    by false is = rw is (omega arith)

pub few : (xs : List Bisection) → open_count xs ≤ length xs
few [] = omega arith
few (x ∷ xs) = omega (arith, counted x xs, at_most x, few xs)

-- none is in an empty list
in-none : (i : ℕ) (one : Bisection) → slice_get [] i ≡ Some one → ⊥
in-none i one is = cc

asking : (o : Outcome) (place : ℕ) → asked_by o ≡ Some place → (is_open o ≡ true) × (answer_to o place ≡ answered.Ok)
asking (Asks asked) place is =
    let same : asked ≡ place = cc in
    (refl, ap (λ b. cond b answered.Ok (answered.NotAsked asked)) (eq-eqb asked place same))
asking (Found lo hi) place is = absurd (cc)
asking (Undecided at status) place is = absurd (cc)
asking (Faulted at) place is = absurd (cc)

-- the one of a number, which asks a place
pub record AsksPlace (number place : ℕ) (xs : List Bisection) (one : Bisection) : Type 0 where
  pub there : job_in number xs ≡ Some one
  pub at : slice_get xs (number - 1) ≡ Some one
  pub under_way : is_under_way one ≡ true
  pub answers : answer_to one.outcome place ≡ answered.Ok

pub asks_place : (number place : ℕ) (now xs : List Bisection) (one : Bisection) → xs ≡ now → place_asked (job_in number now) ≡ Some place
    → one ≡ get_or xs (number - 1) one → AsksPlace number place xs one
asks_place zero place now xs one are asks read = absurd (cc)
asks_place (suc k) place now xs one are asks read = by (slice_get xs k) refl
  where
    first : suc k - 1 ≡ k
    first = omega arith

    by : (o : Option Bisection) → slice_get xs k ≡ o → AsksPlace (suc k) place xs one
    by None is = absurd (subst (λ o. place_asked o ≡ Some place → ⊥) (sym is) (λ e. cc) (subst (λ ys. place_asked (slice_get ys k) ≡ Some place) (sym are) asks))
    by (Some found) is =
        let same : found ≡ one = sym (subst (λ n. one ≡ get_or xs n one) first read ∙ get_or_from_slice_get xs k found one is) in
        let known : slice_get xs k ≡ Some one = is ∙ ap Some same in
        let facts = asking one.outcome place (subst (λ o. place_asked o ≡ Some place) known (subst (λ ys. place_asked (slice_get ys k) ≡ Some place) (sym are) asks)) in
        record { there = known; at = subst (λ n. slice_get xs n ≡ Some one) (sym first) known; under_way = facts.0; answers = facts.1 }

-- ---- the numbers of the open ones
pub counted_open : (k : ℕ) (xs : List Bisection) → length (open_from k xs) ≡ open_count xs
counted_open k [] = refl
counted_open k (x ∷ xs) = by (is_under_way x) refl (counted_open (k + 1) xs)
  where
    by : (b : Bool) → is_under_way x ≡ b → length (open_from (k + 1) xs) ≡ open_count xs → length (open_from k (x ∷ xs)) ≡ open_count (x ∷ xs)
    by true is rest = rw is (ap suc rest)
    by false is rest = rw is rest

pub open-push : (k : ℕ) (xs : List Bisection) (x : Bisection) → open_from k (xs ++ x ∷ []) ≡ open_from k xs ++ cond (is_under_way x) ((k + length xs) ∷ []) []
open-push k [] x =
    let first : k + 0 ≡ k = omega arith in
    ap (λ (n : ℕ). cond (is_under_way x) (n ∷ []) []) (sym first)
open-push k (y ∷ xs) x =
    let next : k + 1 + length xs ≡ k + length (y ∷ xs) = omega arith in
    let rest : open_from (k + 1) (xs ++ x ∷ []) ≡ open_from (k + 1) xs ++ cond (is_under_way x) ((k + length (y ∷ xs)) ∷ []) [] =
    open-push (k + 1) xs x ∙ ap (λ (n : ℕ). open_from (k + 1) xs ++ cond (is_under_way x) (n ∷ []) []) next in
    by (is_under_way y) refl rest
  where
    by : (b : Bool) → is_under_way y ≡ b → open_from (k + 1) (xs ++ x ∷ []) ≡ open_from (k + 1) xs ++ cond (is_under_way x) ((k + length (y ∷ xs)) ∷ []) []
        → open_from k (y ∷ xs ++ x ∷ []) ≡ open_from k (y ∷ xs) ++ cond (is_under_way x) ((k + length (y ∷ xs)) ∷ []) []
    by true is rest = rw is (ap (λ (ns : List ℕ). k ∷ ns) rest)
    by false is rest = rw is rest

abbrev others : ℕ → List ℕ → List ℕ
others m ns = filter (λ (n : ℕ). not (n == m)) ns

none-below : (m k : ℕ) (xs : List Bisection) → m + 1 ≤ k → others m (open_from k xs) ≡ open_from k xs
none-below m k [] le = refl
none-below m k (x ∷ xs) le =
    let rest : others m (open_from (k + 1) xs) ≡ open_from (k + 1) xs = none-below m (k + 1) xs (omega (arith, le)) in
    let apart : (k == m) ≡ false = ne_eqb k m (λ same. omega (arith, le, same)) in
    by (is_under_way x) refl rest apart
  where
    by : (b : Bool) → is_under_way x ≡ b → others m (open_from (k + 1) xs) ≡ open_from (k + 1) xs → (k == m) ≡ false
        → others m (open_from k (x ∷ xs)) ≡ open_from k (x ∷ xs)
    by true is rest apart = rw is (ap (λ b. cond (not b) (k ∷ others m (open_from (k + 1) xs)) (others m (open_from (k + 1) xs))) apart ∙ ap (λ (ns : List ℕ). k ∷ ns) rest)
    by false is rest apart = rw is rest

-- an open one that an open one takes the place of
pub open-stays : (k : ℕ) (xs : List Bisection) (i : ℕ) (one later : Bisection) → slice_get xs i ≡ Some one → is_under_way one ≡ true → is_under_way later ≡ true
    → open_from k (set xs i later) ≡ open_from k xs
open-stays k [] i one later there under_way stays = absurd (in-none i one there)
open-stays k (x ∷ xs) zero one later there under_way stays =
    let same : x ≡ one = cc in
    rw (stays, ap is_under_way same ∙ under_way) refl
open-stays k (x ∷ xs) (suc i) one later there under_way stays =
    ap (λ (ns : List ℕ). cond (is_under_way x) (k ∷ ns) ns) (open-stays (k + 1) xs i one later there under_way stays)

-- and one that a closed one takes the place of
pub open-leaves : (k : ℕ) (xs : List Bisection) (i : ℕ) (one later : Bisection) → slice_get xs i ≡ Some one → is_under_way one ≡ true → is_under_way later ≡ false
    → open_from k (set xs i later) ≡ filter (λ (n : ℕ). not (n == k + i)) (open_from k xs)
open-leaves k [] i one later there under_way ends = absurd (in-none i one there)
open-leaves k (x ∷ xs) zero one later there under_way ends =
    let same : x ≡ one = cc in
    let asks : is_under_way x ≡ true = ap is_under_way same ∙ under_way in
    let first : k ≡ k + 0 = omega arith in
    let here : (k == k + 0) ≡ true = eq-eqb k (k + 0) first in
    let rest : open_from (k + 1) xs ≡ others (k + 0) (open_from (k + 1) xs) = sym (none-below (k + 0) (k + 1) xs (omega arith)) in
    rw (ends, asks, here) rest
open-leaves k (x ∷ xs) (suc i) one later there under_way ends =
    let next : k + 1 + i ≡ k + suc i = omega arith in
    let rest : open_from (k + 1) (set xs i later) ≡ filter (λ (n : ℕ). not (n == k + suc i)) (open_from (k + 1) xs) =
    open-leaves (k + 1) xs i one later there under_way ends ∙ ap (λ (m : ℕ). filter (λ (n : ℕ). not (n == m)) (open_from (k + 1) xs)) next in
    let apart : (k == k + suc i) ≡ false = ne_eqb k (k + suc i) (λ same. omega (arith, same)) in
    by (is_under_way x) refl rest apart
  where
    by : (b : Bool) → is_under_way x ≡ b → open_from (k + 1) (set xs i later) ≡ filter (λ (n : ℕ). not (n == k + suc i)) (open_from (k + 1) xs)
        → (k == k + suc i) ≡ false → open_from k (set (x ∷ xs) (suc i) later) ≡ filter (λ (n : ℕ). not (n == k + suc i)) (open_from k (x ∷ xs))
    by true is rest apart = rw (is, apart) (ap (λ (ns : List ℕ). k ∷ ns) rest)
    by false is rest apart = rw is rest

-- the numbers after the one of a number went on
pub open-after : (number : ℕ) (xs : List Bisection) (one later : Bisection) → job_in number xs ≡ Some one → is_under_way one ≡ true
    → open_numbers (set xs (number - 1) later) ≡ cond (is_under_way later) (open_numbers xs) (filter (λ (n : ℕ). not (n == number)) (open_numbers xs))
open-after zero xs one later there under_way = absurd (cc)
open-after (suc i) xs one later there under_way =
    let place : suc i - 1 ≡ i = omega arith in
    let it : 1 + i ≡ suc i = omega arith in
    ap (λ (n : ℕ). open_numbers (set xs n later)) place ∙ by (is_under_way later) refl it
  where
    by : (b : Bool) → is_under_way later ≡ b → 1 + i ≡ suc i
        → open_numbers (set xs i later) ≡ cond (is_under_way later) (open_numbers xs) (filter (λ (n : ℕ). not (n == suc i)) (open_numbers xs))
    by true is it = open-stays 1 xs i one later there under_way is ∙ sym (ap (λ c. cond c (open_numbers xs) (filter (λ (n : ℕ). not (n == suc i)) (open_numbers xs))) is)
    by false is it =
        open-leaves 1 xs i one later there under_way is ∙ ap (λ (m : ℕ). filter (λ (n : ℕ). not (n == m)) (open_numbers xs)) it
        ∙ sym (ap (λ c. cond c (open_numbers xs) (filter (λ (n : ℕ). not (n == suc i)) (open_numbers xs))) is)

-- ---- one that goes on: what asks a place, and its turn's answer
module _ (number place : ℕ) {now xs : List Bisection} {one : Bisection} (later : Bisection) (are : xs ≡ now) (asks : place_asked (job_in number now) ≡ Some place)
    (read : one ≡ get_or xs (number - 1) one) where
  pub numbers-after : (ns ms : List ℕ) → ns ≡ open_numbers xs → ms ≡ cond (is_under_way later) ns (filter (λ (n : ℕ). not (n == number)) ns) → ms ≡ open_numbers (set xs (number - 1) later)
  numbers-after ns ms before after =
      let o = asks_place number place now xs one are asks read in
      after ∙ ap (λ (ns : List ℕ). cond (is_under_way later) ns (filter (λ (n : ℕ). not (n == number)) ns)) before
      ∙ sym (open-after number xs one later o.there o.under_way)

  pub goes-on : (turn : Turn) (told : Answered) → told ≡ answer_to one.outcome place → (told ≡ answered.Ok → IsRecorded turn one later) → GoesOn number turn now (set xs (number - 1) later)
  goes-on turn told is recorded =
      let o = asks_place number place now xs one are asks read in
      record {
        one = one;
        later = later;
        there = subst (λ ys. job_in number ys ≡ Some one) are o.there;
        recorded = recorded (is ∙ o.answers);
        gone_on = ap (λ ys. set ys (number - 1) later) are;
      }
