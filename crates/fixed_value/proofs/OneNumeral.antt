-- A text is one numeral's at most.
use Rattle.std.proofs.Common.{◌≡◌, ℕ, ◌<◌, Bool, ⊎_elim, List, ◌∷◌, ◌++◌, length, get_or, drop, sym, ap₂, ◌∙◌, subst, arith, ℤ, ◌-ℤ◌, pos}
use Rattle.std.{specs.Char.digit_value, specs.Str.Parse.{digits_value, starts_with_minus, without_leading_sign}, proofs.lemmas.Grind.common_steps}
use Rattle.std.proofs.lemmas.Bool.{cases_eq}
use Rattle.fixed_value.specs.Numerals.{AreDigits, IsSign, IsExponent, IsTail, NumeralIsOne}
use Rattle.fixed_value.proofs.Grammar.{one_run, first_of_digits, exponent_ends, tail_without_point, tail_behind_point, tail_ends, same_numeral}

-- a sign is split off in one way
sign_split : (text sign rest : List ℕ) (negative : Bool) → IsSign sign negative → digit_value (get_or rest 0 0) < 10 → text ≡ sign ++ rest
    → (negative ≡ starts_with_minus text) × (rest ≡ without_leading_sign text)
sign_split text sign rest negative x4 digit joined = grind (arith, common_steps)

first_digit : (digits : List ℕ) → AreDigits digits → digit_value (get_or digits 0 0) < 10
first_digit digits are = grind (arith, common_steps)

one_exponent : (text : List ℕ) (power other : ℤ) → IsExponent text power → IsExponent text other → power ≡ other
one_exponent text power other x3 x4 = grind (arith, common_steps)

behind_first : (text : List ℕ) → get_or text 0 0 ≡ 46 → text ≡ 46 ∷ drop 1 text
behind_first text is = grind (arith, common_steps)

one_tail : (text fraction fraction' : List ℕ) (power power' : ℤ) → IsTail text fraction power → IsTail text fraction' power' → (fraction ≡ fraction') × (power ≡ power')
one_tail text fraction fraction' power power' is is' = ⊎_elim with_point without_point (cases_eq (get_or text 0 0) 46)
  where
    with_point : get_or text 0 0 ≡ 46 → (fraction ≡ fraction') × (power ≡ power')
    with_point first =
        let parts = tail_behind_point text (drop 1 text) fraction power (behind_first text first) is in
        let parts' = tail_behind_point text (drop 1 text) fraction' power' (behind_first text first) is' in
        let run = one_run fraction fraction' parts.0 parts'.0 parts.2.1 parts'.2.1 (exponent_ends parts.0 power parts.3) (exponent_ends parts'.0 power' parts'.3) (sym parts.1 ∙ parts'.1) in
        (run.0, one_exponent parts.0 power power' parts.3 (subst (λ t. IsExponent t power') (sym run.1) parts'.3))

    without_point : (get_or text 0 0 ≡ 46 → ⊥) → (fraction ≡ fraction') × (power ≡ power')
    without_point other =
        let plain = tail_without_point text fraction power other is in
        let plain' = tail_without_point text fraction' power' other is' in
        (plain.0 ∙ sym plain'.0, one_exponent text power power' plain.1 plain'.1)

pub one_numeral : NumeralIsOne
one_numeral text one other is is' =
    let split = sign_split text is.sign (is.whole ++ is.tail) one.negative is.sign_is (first_of_digits is.whole is.tail is.whole_is) is.joined in
    let split' = sign_split text is'.sign (is'.whole ++ is'.tail) other.negative is'.sign_is (first_of_digits is'.whole is'.tail is'.whole_is) is'.joined in
    let run = one_run is.whole is'.whole is.tail is'.tail is.whole_is.1 is'.whole_is.1 (tail_ends is.tail is.fraction is.power is.tail_is) (tail_ends is'.tail is'.fraction is'.power is'.tail_is)
    (split.1 ∙ sym split'.1) in
    let tails = one_tail is.tail is.fraction is'.fraction is.power is'.power is.tail_is (subst (λ t. IsTail t is'.fraction is'.power) (sym run.1) is'.tail_is) in
    same_numeral one other (split.0 ∙ sym split'.0)
    (is.digits ∙ ap₂ (λ whole fraction. digits_value 10 (whole ++ fraction)) run.0 tails.0 ∙ sym is'.digits)
    (is.exponent ∙ ap₂ (λ power fraction. power -ℤ pos (length fraction)) tails.1 tails.0 ∙ sym is'.exponent)
