-- The grammar of numerals: a text is split in one way.
use Rattle.std.proofs.lemmas.Grind.{common_steps}
use Rattle.std.proofs.Common.{◌≡◌, ◌≢◌, ℕ, zero, suc, ◌+◌, ◌-◌, ◌^◌, ◌<◌, ◌≤◌, Bool, ◌⊎◌, List, [], ◌∷◌, ◌++◌, length, get_or, take, drop, refl, sym, ap, ap₂, ◌∙◌, subst, arith, ℤ, pos, ◌-ℤ◌}
use Rattle.std.{proofs.Math.Seq.take-length, proofs.lemmas.List.{take-append-drop, length-take-le, length-drop}, specs.Char.digit_value}
use Rattle.std.specs.{Prelude.{unsigned_abs, Option, None, Some, IfSome, IfNone}, Str.Parse.{AllDigits, digits_value, digits_value_after}}
use Rattle.fixed_value.specs.{declared.numeral.Numeral.Numeral, Scaled.signed}
use Rattle.fixed_value.specs.Numerals.{AreDigits, IsSign, IsPower, IsExponent, mark, IsFraction, no_point, point, IsTail, IsNumeralText}
use Rattle.fixed_value.proofs.{Reading.{value_below, value_after_append}, Powers.{abs-signed, ten_grows}}

-- ---- the sign

behind_first : (byte : ℕ) (rest : List ℕ) → take (length (byte ∷ rest) - 1) (drop 1 (byte ∷ rest)) ≡ rest
behind_first byte rest = let less : length (byte ∷ rest) - 1 ≡ length rest = omega arith in rw less (take-length rest)

pub behind_byte : (byte : ℕ) (text : List ℕ) → 1 ≤ length text → get_or text 0 0 ≡ byte → text ≡ byte ∷ take (length text - 1) (drop 1 text)
behind_byte byte text some is = grind (arith, common_steps)

-- a byte comes first
pub splits_first : (byte : ℕ) (text : List ℕ) (negative : Bool) → 1 ≤ length text → get_or text 0 0 ≡ byte → IsSign (byte ∷ []) negative
    → (sign : List ℕ) × (text ≡ sign ++ take (length text - 1) (drop 1 text)) × IsSign sign negative
splits_first byte text negative some is sign = (byte ∷ [], behind_byte byte text some is, sign)

-- ---- runs of digits

-- no digit comes first
abbrev pub EndsDigits : List ℕ → Type 0
EndsDigits text = 10 ≤ digit_value (get_or text 0 0)

not_both : (digit : ℕ) (digits more rest : List ℕ) → AllDigits 10 (digit ∷ digits) → EndsDigits rest → rest ≡ digit ∷ digits ++ more → ⊥
not_both digit digits more rest are ends is = grind (arith, common_steps)

-- a text has one longest run of digits
pub one_run : (run other rest more : List ℕ) → AllDigits 10 run → AllDigits 10 other → EndsDigits rest → EndsDigits more → run ++ rest ≡ other ++ more
    → (run ≡ other) × (rest ≡ more)
one_run [] [] rest more are are' ends ends' is = (refl, is)
one_run [] (digit ∷ other) rest more are are' ends ends' is = absurd (not_both digit other more rest are' ends is)
one_run (digit ∷ run) [] rest more are are' ends ends' is = absurd (not_both digit run rest more are ends' (sym is))
one_run (digit ∷ run) (digit' ∷ other) rest more are are' ends ends' is =
    let below = one_run run other rest more are.1 are'.1 ends ends' (ap (drop 1) is) in
    (ap₂ (λ d digits. d ∷ digits) (ap (λ text. get_or text 0 0) is) below.0, below.1)

pub first_of_digits : (digits more : List ℕ) → AreDigits digits → digit_value (get_or (digits ++ more) 0 0) < 10
first_of_digits digits more are = grind (arith, common_steps)

-- ---- what ends digits

exponent_first : (text : List ℕ) (power : ℤ) → IsExponent text power → EndsDigits text × (get_or text 0 0 ≢ 46)
exponent_first text power x2 = grind (arith, common_steps)

pub exponent_ends : (text : List ℕ) (power : ℤ) → IsExponent text power → EndsDigits text
exponent_ends text power is = (exponent_first text power is).0

-- a tail without a point is an exponent, and one with a point has digits behind it
pub tail_without_point : (text fraction : List ℕ) (power : ℤ) → get_or text 0 0 ≢ 46 → IsTail text fraction power → (fraction ≡ []) × IsExponent text power
tail_without_point text fraction power other is = by is.point is.exponent is.joined is.point_is is.exponent_is
  where
    by : (front back : List ℕ) → text ≡ front ++ back → IsFraction front fraction → IsExponent back power → (fraction ≡ []) × IsExponent text power
    by front back joined (no_point empty same) powers = (same, subst (λ t. IsExponent t power) (sym (joined ∙ ap (λ f. f ++ back) empty)) powers)
    by front back joined (point is are) powers = absurd (other (ap (λ t. get_or t 0 0) (joined ∙ ap (λ f. f ++ back) is)))

pub tail_behind_point : (text behind fraction : List ℕ) (power : ℤ) → text ≡ 46 ∷ behind → IsTail text fraction power
    → (exponent : List ℕ) × (behind ≡ fraction ++ exponent) × AreDigits fraction × IsExponent exponent power
tail_behind_point text behind fraction power first is = by is.point is.exponent is.joined is.point_is is.exponent_is
  where
    by : (front back : List ℕ) → text ≡ front ++ back → IsFraction front fraction → IsExponent back power
        → (exponent : List ℕ) × (behind ≡ fraction ++ exponent) × AreDigits fraction × IsExponent exponent power
    by front back joined (no_point empty same) powers =
        let is : 46 ∷ behind ≡ back = sym first ∙ joined ∙ ap (λ f. f ++ back) empty in
        absurd ((exponent_first back power powers).1 (ap (λ t. get_or t 0 0) (sym is)))
    by front back joined (point is are) powers =
        (back, ap (drop 1) (sym first ∙ joined ∙ ap (λ f. f ++ back) is), are, powers)

pub tail_ends : (text fraction : List ℕ) (power : ℤ) → IsTail text fraction power → EndsDigits text
tail_ends text fraction power is = grind (arith, common_steps)

-- ---- the reader's splits are the grammar's

digit_at : (text : List ℕ) (n : ℕ) → AllDigits 10 text → n < length text → digit_value (get_or text n 0) < 10
digit_at [] n are within = absurd (omega arith)
digit_at (digit ∷ text) zero are within = are.0
digit_at (digit ∷ text) (suc n) are within = digit_at text n are.1 (omega arith)

-- the longest run of digits is the whole text exactly where the text is digits
pub all_digits : (text : List ℕ) (n : ℕ) → n ≤ length text → AllDigits 10 (take n text) → 10 ≤ digit_value (get_or text n 0) → 0 < length text
    → (n ≡ length text → AreDigits text) × (AreDigits text → n ≡ length text)
all_digits text n within are stops some = grind (arith, common_steps, take, take-length, length, digit_value, get_or, digit_at)

ends_at : (text : List ℕ) (n : ℕ) → 10 ≤ digit_value (get_or text n 0) → EndsDigits (drop n text)
ends_at text n stops = grind (arith, common_steps)

-- a run of digits in front is the longest one
pub run_is : (text run rest : List ℕ) (n : ℕ) → n ≤ length text → AllDigits 10 (take n text) → 10 ≤ digit_value (get_or text n 0) → text ≡ run ++ rest → AllDigits 10 run → EndsDigits rest
    → (run ≡ take n text) × (rest ≡ drop n text)
run_is text run rest n within are stops joined digits ends =
    one_run run (take n text) rest (drop n text) digits are ends (ends_at text n stops) (sym joined ∙ sym (take-append-drop n text))

-- ---- what the reader's parts answer

pub not_none : {A : Type 0} (x : A) → None ≡ Some x → ⊥
not_none {A = A} x is = let never : ◌≡◌ {A = Option A} None (Some x) = is in cc

pub same_some : {A : Type 0} (x y : A) → Some x ≡ Some y → x ≡ y
same_some {A = A} x y is = let same : ◌≡◌ {A = Option A} (Some x) (Some y) = is in cc

pub if_none : {A P : Type 0} (r : Option A) → P → IfNone r P
if_none r p = grind (arith, common_steps)

if_some_weaker : {A : Type 0} (r : Option A) (P Q : A → Type 0) → ((x : A) → P x → Q x) → IfSome r P → IfSome r Q
if_some_weaker r P Q weaker holds = grind (arith, common_steps)

-- few digits spell a number that fits
pub short_value : (digits : List ℕ) (number : ℕ) → AreDigits digits → length digits ≤ 38 → number ≡ digits_value_after 10 0 digits → number < 10 ^ 38
short_value digits number are short is = grind (arith, common_steps, value_below, ten_grows, length)

pub signed_short : (negative : Bool) (number : ℕ) (power : ℤ) → power ≡ signed negative number → number < 10 ^ 38 → unsigned_abs power < 10 ^ 38
signed_short negative number power is small = subst (λ n. n < 10 ^ 38) (sym (ap unsigned_abs is ∙ abs-signed negative number)) small

-- the only way to split a sign off
abbrev pub SplitsSign : List ℕ → List ℕ → Bool → Type 0
SplitsSign text behind negative' = (sign rest : List ℕ) (negative : Bool) → IsSign sign negative → text ≡ sign ++ rest → digit_value (get_or rest 0 0) < 10 → (negative ≡ negative') × (rest ≡ behind)

pub same_digits : (text behind : List ℕ) (negative : Bool) (power : ℤ) → SplitsSign text behind negative → IsPower text power → AreDigits behind
same_digits text behind negative power splits is =
    let split = splits is.sign is.digits is.negative is.sign_is is.joined (first_digit is.digits is.digits_are) in
    subst AreDigits split.1 is.digits_are
  where
    first_digit : (digits : List ℕ) → AreDigits digits → digit_value (get_or digits 0 0) < 10
    first_digit [] are = absurd (omega (arith, are.0))
    first_digit (digit ∷ digits) are = are.1.0

pub exponent_by_letter : (text rest : List ℕ) (r : Option ℤ) → text ≡ get_or text 0 0 ∷ rest → (get_or text 0 0 ≡ 69) ⊎ (get_or text 0 0 ≡ 101)
    → IfSome r (λ power. IsPower rest power) → IfSome r (λ power. IsExponent text power)
exponent_by_letter text rest r is letter holds =
    if_some_weaker r (λ power. IsPower rest power) (λ power. IsExponent text power) (λ power powers. mark (get_or text 0 0) rest is letter powers) holds

pub exponent_behind_letter : (text rest : List ℕ) (power : ℤ) → text ≡ get_or text 0 0 ∷ rest → IsExponent text power → IsPower rest power
exponent_behind_letter text rest power first x4 = grind (arith, common_steps)

pub plain_tail : (text : List ℕ) (power : ℤ) → IsExponent text power → IsTail text [] power
plain_tail text power powers = record { point = []; exponent = text; joined = refl; point_is = no_point refl refl; exponent_is = powers }

-- what follows a run
pub behind_run : (text : List ℕ) (n : ℕ) → take (length text - n) (drop n text) ≡ drop n text
behind_run text n = ap (λ k. take k (drop n text)) (sym (length-drop n text)) ∙ take-length (drop n text)

pub tail_at_run : (text behind fraction : List ℕ) (power : ℤ) (n : ℕ) → n ≤ length behind → AllDigits 10 (take n behind) → 10 ≤ digit_value (get_or behind n 0)
    → text ≡ 46 ∷ behind → IsTail text fraction power → (fraction ≡ take n behind) × IsExponent (take (length behind - n) (drop n behind)) power
tail_at_run text behind fraction power n within are stops first is =
    let parts = tail_behind_point text behind fraction power first is in
    let run = run_is behind fraction parts.0 n within are stops parts.1 parts.2.1 (exponent_ends parts.0 power parts.3) in
    (run.0, subst (λ t. IsExponent t power) (run.1 ∙ sym (behind_run behind n)) parts.3)

pub pointed_tail : (text behind : List ℕ) (power : ℤ) (n : ℕ) → n ≤ length behind → AllDigits 10 (take n behind) → (n ≡ 0 → ⊥) → text ≡ 46 ∷ behind
    → IsExponent (take (length behind - n) (drop n behind)) power → IsTail text (take n behind) power
pointed_tail text behind power n within are some first powers =
    let len : length (take n behind) ≡ n = length-take-le n behind within in
    record {
      point = 46 ∷ take n behind;
      exponent = drop n behind;
      joined = first ∙ ap (λ b. 46 ∷ b) (sym (take-append-drop n behind));
      point_is = point refl (omega (arith, len, some), are);
      exponent_is = subst (λ t. IsExponent t power) (behind_run behind n) powers;
    }

-- ---- the whole text

-- a sign is split off, and n digits come first behind it
pub record Front (text unsigned : List ℕ) (negative : Bool) (n : ℕ) : Type 0 where
  pub splits : SplitsSign text unsigned negative
  pub within : n ≤ length unsigned
  pub digits : AllDigits 10 (take n unsigned)
  pub stops : 10 ≤ digit_value (get_or unsigned n 0)

abbrev pub behind_digits : List ℕ → ℕ → List ℕ
behind_digits unsigned n = take (length unsigned - n) (drop n unsigned)

pub numeral_split : (text unsigned : List ℕ) (negative : Bool) (n : ℕ) (numeral : Numeral) → Front text unsigned negative n → (is : IsNumeralText text numeral)
    → (numeral.negative ≡ negative) × (is.whole ≡ take n unsigned) × IsTail (behind_digits unsigned n) is.fraction is.power
numeral_split text unsigned negative n numeral front is =
    let split = front.splits is.sign (is.whole ++ is.tail) numeral.negative is.sign_is is.joined (first_of_digits is.whole is.tail is.whole_is) in
    let run = run_is unsigned is.whole is.tail n front.within front.digits front.stops (sym split.1) is.whole_is.1 (tail_ends is.tail is.fraction is.power is.tail_is) in
    (split.0, run.0, subst (λ t. IsTail t is.fraction is.power) (run.1 ∙ sym (behind_run unsigned n)) is.tail_is)

pub some_whole : (text unsigned : List ℕ) (negative : Bool) (n : ℕ) (numeral : Numeral) → Front text unsigned negative n → n ≡ 0 → ¬ IsNumeralText text numeral
some_whole text unsigned negative n numeral front none is =
    let whole = (numeral_split text unsigned negative n numeral front is).1 in
    let len : length (take n unsigned) ≡ n = length-take-le n unsigned front.within in
    let some : 0 < length is.whole = is.whole_is.0 in
    omega (arith, len, ap length whole, none, some)

pub too_many : (text unsigned fraction : List ℕ) (power : ℤ) (negative : Bool) (n : ℕ) (numeral : Numeral) → Front text unsigned negative n
    → ((other : List ℕ) (power' : ℤ) → IsTail (behind_digits unsigned n) other power' → (other ≡ fraction) × (power' ≡ power)) → 38 < n + length fraction → ¬ IsNumeralText text numeral
too_many text unsigned fraction power negative n numeral front only many is =
    let split = numeral_split text unsigned negative n numeral front is in
    let len : length (take n unsigned) ≡ n = length-take-le n unsigned front.within in
    let fractions = ap length (only is.fraction is.power split.2).0 in
    let few : length is.whole + length is.fraction ≤ 38 = is.few in
    omega (arith, len, ap length split.1, fractions, few, many)

-- the numeral that is made of the parts
pub numeral_made : (text unsigned fraction : List ℕ) (power : ℤ) (n : ℕ) (numeral : Numeral)
    → ((sign : List ℕ) × (text ≡ sign ++ unsigned) × IsSign sign numeral.negative) → n ≤ length unsigned → AllDigits 10 (take n unsigned) → (n ≡ 0 → ⊥)
    → IsTail (behind_digits unsigned n) fraction power → length text ≤ 40 → n + length fraction ≤ 38
    → numeral.digits ≡ digits_value_after 10 (digits_value 10 (take n unsigned)) fraction → numeral.exponent ≡ power -ℤ pos (length fraction) → IsNumeralText text numeral
numeral_made text unsigned fraction power n numeral signed within digits some tails short few value exponent =
    let len : length (take n unsigned) ≡ n = length-take-le n unsigned within in
    record {
      sign = signed.0;
      whole = take n unsigned;
      fraction = fraction;
      tail = behind_digits unsigned n;
      power = power;
      joined = signed.1 ∙ ap (λ u. signed.0 ++ u) (sym (ap (λ t. take n unsigned ++ t) (behind_run unsigned n) ∙ take-append-drop n unsigned));
      sign_is = signed.2;
      whole_is = (omega (arith, len, some), digits);
      tail_is = tails;
      digits = value ∙ sym (value_after_append 0 (take n unsigned) fraction);
      exponent = exponent;
      short = short;
      few = omega (arith, len, few);
    }

pub same_numeral : (one other : Numeral) → one.negative ≡ other.negative → one.digits ≡ other.digits → one.exponent ≡ other.exponent → one ≡ other
same_numeral one other signs digits exponents = λ i. record { negative = signs i; digits = digits i; exponent = exponents i }

-- and no other numeral
pub numeral_only : (text unsigned fraction : List ℕ) (power : ℤ) (n : ℕ) (numeral other : Numeral) → Front text unsigned numeral.negative n
    → ((other : List ℕ) (power' : ℤ) → IsTail (behind_digits unsigned n) other power' → (other ≡ fraction) × (power' ≡ power))
    → numeral.digits ≡ digits_value_after 10 (digits_value 10 (take n unsigned)) fraction → numeral.exponent ≡ power -ℤ pos (length fraction)
    → IsNumeralText text other → numeral ≡ other
numeral_only text unsigned fraction power n numeral other front only value exponent is =
    let split = numeral_split text unsigned numeral.negative n other front is in
    let tails = only is.fraction is.power split.2 in
    same_numeral numeral other (sym split.0)
    (value ∙ sym (value_after_append 0 (take n unsigned) fraction) ∙ sym (ap₂ (λ whole fraction. digits_value 10 (whole ++ fraction)) split.1 tails.0) ∙ sym is.digits)
    (exponent ∙ sym (ap₂ (λ power fraction. power -ℤ pos (length fraction)) tails.1 tails.0) ∙ sym is.exponent)
