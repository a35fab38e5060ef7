-- Decimal digits, byte by byte.
use Rattle.std.proofs.{Common.{◌≡◌, ℕ, ◌+◌, ◌<◌, ◌≤◌, true, false, List, length, drop, get_or, sym, subst, arith}, lemmas.Grind.common_steps}
use Rattle.std.{specs.Char.{digit_value, is_ascii_digit}, specs.Str.Parse.AllDigits, proofs.lemmas.List.drop_all}

-- what follows a digit decides
pub record GoesOn (bytes : List ℕ) (i : ℕ) : Type 0 where
  pub on : AllDigits 10 (drop i bytes) → AllDigits 10 bytes
  pub back : AllDigits 10 bytes → AllDigits 10 (drop i bytes)

at_digit : (bytes : List ℕ) (i b : ℕ) → i < length bytes → b ≡ get_or bytes i b → AllDigits 10 (drop i bytes) → (digit_value b < 10) × AllDigits 10 (drop (i + 1) bytes)
at_digit bytes i b l e h = grind (arith, common_steps)

pub goes_on : (bytes : List ℕ) (i b : ℕ) → i < length bytes → b ≡ get_or bytes i b → is_ascii_digit b ≡ true → GoesOn bytes i → GoesOn bytes (i + 1)
goes_on bytes i b l e digit before = grind (arith, common_steps)

pub no_digit : (bytes : List ℕ) (i b : ℕ) → i < length bytes → b ≡ get_or bytes i b → is_ascii_digit b ≡ false → GoesOn bytes i → AllDigits 10 bytes → ⊥
no_digit bytes i b l e digit before all = grind (arith, common_steps)

pub all_are : (bytes : List ℕ) (i : ℕ) → length bytes ≤ i → GoesOn bytes i → AllDigits 10 bytes
all_are bytes i l before = before.on (subst (AllDigits 10) (sym (drop_all i bytes l)) tt)
