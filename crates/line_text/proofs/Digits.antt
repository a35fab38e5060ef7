-- The digits of a word, one after another.
use Rattle.std.{proofs.Common.{◌↔◌, ℕ, ◌+◌, ◌<◌, ◌≤◌, List, ◌∷◌, length, drop, get_or, sym, subst, arith}, specs.Char.digit_value, specs.Str.Parse.AllDigits}
use Rattle.std.proofs.lemmas.{List.{drop_more, drop_all}, Grind.common_steps}

-- all are digits where those from place i on are
abbrev pub GoesOn : List ℕ → ℕ → Type 0
GoesOn word i = AllDigits 10 word ↔ AllDigits 10 (drop i word)

at_byte : (word : List ℕ) (i : ℕ) → i < length word → GoesOn word i → AllDigits 10 word ↔ AllDigits 10 (get_or word i 0 ∷ drop (i + 1) word)
at_byte word i within before = subst (λ rest. AllDigits 10 word ↔ AllDigits 10 rest) (drop_more word i 0 within) before

pub one_digit : (word : List ℕ) (i : ℕ) → i < length word → digit_value (get_or word i 0) < 10 → GoesOn word i → GoesOn word (i + 1)
one_digit word i within digit before = grind (arith, common_steps)

pub no_digit : (word : List ℕ) (i : ℕ) → i < length word → (digit_value (get_or word i 0) < 10 → ⊥) → GoesOn word i → AllDigits 10 word → ⊥
no_digit word i within other before whole = other ((at_byte word i within before).0 whole).0

pub all_digits : (word : List ℕ) (i : ℕ) → length word ≤ i → GoesOn word i → AllDigits 10 word
all_digits word i end before = before.1 (subst (AllDigits 10) (sym (drop_all i word end)) tt)
