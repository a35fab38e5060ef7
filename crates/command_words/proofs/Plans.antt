-- What is asked for is one thing.
use Rattle.std.proofs.Common.{◌≡◌, ◌≢◌, ◌↔◌, ℕ, zero, suc, ◌<◌, ◌≤◌, List, [], ◌∷◌, length, get_or, Bool, codes, Option, Some, None, refl, sym, subst, ap, ◌∙◌, arith}
use Rattle.std.specs.{Prelude.{All, AllPairs, Contains, IsTrue, IsSome, Result, Ok, Err, IfOk}, List.{AllZip, slice_split}, Borrow.Bor}
use Rattle.line_text.{specs.Names.Spells, proofs.SignedWords.one_number}
use Rattle.clap.specs.Words.{Row}
use Rattle.command_words.specs.Simple.{IsNumberOr, value_in}
use Rattle.command_words.specs.{Plans.{Plan, AsksFor, AreMachines, AreScripts, IsListOf, IsWithinLimits, is_comma, transcript_of}, Texts.{shown, shown_if}}

-- pieces spell one list of names
pub spelt_once : (pieces one other : List (List ℕ)) → AllZip Spells pieces one → AllZip Spells pieces other → one ≡ other
spelt_once [] [] [] is its = refl
spelt_once [] [] (y ∷ other) is its = absurd its
spelt_once [] (x ∷ one) other is its = absurd is
spelt_once (p ∷ pieces) [] other is its = absurd is
spelt_once (p ∷ pieces) (x ∷ one) [] is its = absurd its
spelt_once (p ∷ pieces) (x ∷ one) (y ∷ other) is its =
    let first : x ≡ y = sym is.0.decoded ∙ its.0.decoded in
    let rest = spelt_once pieces one other is.1 its.1 in
    λ i. first i ∷ rest i

pub list_once : (list : Option (List ℕ)) (one other : List (List ℕ)) → IsListOf list one → IsListOf list other → one ≡ other
list_once None one other is its = is ∙ sym its
list_once (Some list) one other is its = spelt_once (slice_split is_comma list) one other is its

pub number_once : (none : ℕ) (word : Option (List ℕ)) (m n : ℕ) → m ≤ 64 → n ≤ 64 → IsNumberOr none word m → IsNumberOr none word n → m ≡ n
number_once none None m n few small is its = is ∙ sym its
number_once none (Some word) m n few small is its = one_number m n (omega (arith, few)) (omega (arith, small)) (sym is ∙ its)

-- a list whose names aren't apart names no machines
pub not_apart : (list : Option (Bor (List ℕ))) (l : Bor (List ℕ)) (names : List (List ℕ)) → list ≡ Some l → AllZip Spells (slice_split is_comma l.now) names
    → (AllPairs ◌≢◌ names → ⊥) → (x : List (List ℕ)) → IsListOf (shown_if list) x × AreMachines x → ⊥
not_apart list l names is spelt repeated x both =
    let listed : IsListOf (Some l.now) x = subst (λ (o : Option (Bor (List ℕ))). IsListOf (shown_if o) x) is both.0 in
    repeated (subst (λ (ns : List (List ℕ)). AllPairs ◌≢◌ ns) (list_once (Some l.now) x names listed spelt) both.1.apart)

pub are_machines : (list : Option (Bor (List ℕ))) (l : Bor (List ℕ)) (names : List (List ℕ)) → list ≡ Some l → AllZip Spells (slice_split is_comma l.now) names
    → length names ≤ 16 → AllPairs ◌≢◌ names → IsListOf (shown_if list) names × AreMachines names
are_machines list l names is spelt few apart = (
  subst (λ (o : Option (Bor (List ℕ))). IsListOf (shown_if o) names) (sym is) spelt,
  record { few = few; apart = apart },
)

-- scripts, where whether their transcripts are none of them is still to be found
pub scripts_by : {E : Type 0} (scripts : List (List ℕ)) → 0 < length scripts → length scripts ≤ 8 → All (λ script. 0 < length script) scripts → AllPairs ◌≢◌ scripts
    → (found : Result Bool E) → IfOk found (λ yes. IsTrue yes ↔ All (λ script. ¬ Contains scripts (transcript_of script)) scripts)
    → IfOk found (λ yes. IsTrue yes ↔ AreScripts scripts)
scripts_by scripts some few named apart (Ok b) own = (
  (λ is. record { some = some; few = few; named = named; apart = apart; own = own.0 is }),
  (λ are. own.1 are.own),
)
scripts_by scripts some few named apart (Err e) own = tt

-- arguments ask for one plan
pub plan_once : (given : List Row) (one other : Plan) → AsksFor given one → IsWithinLimits one → AsksFor given other → IsWithinLimits other → one ≡ other
plan_once given one other is within its limits =
    λ i. record {
      machines = list_once (value_in given (codes "machines")) one.machines other.machines is.machines its.machines i;
      store = (sym is.store ∙ its.store) i;
      recompute = number_once 0 (value_in given (codes "recompute")) one.recompute other.recompute
          (omega (arith, within.recompute)) (omega (arith, limits.recompute)) is.recompute its.recompute i;
      bisect = number_once 0 (value_in given (codes "bisect")) one.bisect other.bisect
          (omega (arith, within.bisect)) (omega (arith, limits.bisect)) is.bisect its.bisect i;
      test = (sym is.test ∙ its.test) i;
      scripts = (sym is.scripts ∙ its.scripts) i;
    }

-- without a word of the test no bisect workers are asked for
pub untested : (given : List Row) (n : ℕ) (word test : Option (List ℕ)) → word ≡ value_in given (codes "bisect") → IsNumberOr 0 word n → n ≤ 8
    → test ≡ value_in given (codes "test") → ((0 < n → IsSome test) → ⊥) → (x : Plan) → AsksFor given x → IsWithinLimits x → ⊥
untested given n word test at is few named none x asks within =
    let its : IsNumberOr 0 (value_in given (codes "bisect")) n = subst (λ (w : Option (List ℕ)). IsNumberOr 0 w n) at is in
    let same : x.bisect ≡ n = number_once 0 (value_in given (codes "bisect")) x.bisect n (omega (arith, within.bisect)) (omega (arith, few)) asks.bisect its in
    let same_test : x.test ≡ test = sym asks.test ∙ sym named in
    none (λ some. subst (λ (t : Option (List ℕ)). IsSome t) same_test (within.tested (subst (λ (m : ℕ). 0 < m) (sym same) some)))

-- ---- texts that are lent

pub shown_at : (xs : List (Bor (List ℕ))) (i : ℕ) (d : Bor (List ℕ)) → get_or (shown xs) i d.now ≡ (get_or xs i d).now
shown_at [] i d = refl
shown_at (x ∷ xs) zero d = refl
shown_at (x ∷ xs) (suc i) d = shown_at xs i d

pub length_shown : (xs : List (Bor (List ℕ))) → length (shown xs) ≡ length xs
length_shown [] = refl
length_shown (x ∷ xs) = ap suc (length_shown xs)
