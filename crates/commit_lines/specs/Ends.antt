-- The ends that are tried behind a line that has begun. No public contract cites this.
use Rattle.std.specs.{Prelude.{ℕ, ◌+◌, ◌*◌, ◌/◌, ◌%◌, nat_lt, if◌then◌else◌, List, [], ◌∷◌, ◌++◌, take}, Char.digit_char}

-- the last digits of an escape of this byte, none, one or two
abbrev pub digits_of : ℕ → ℕ → List ℕ
digits_of count value =
    (if nat_lt 1 count then digit_char (value / 16 % 16) ∷ [] else [])
    ++ (if nat_lt 0 count then digit_char (value % 16) ∷ [] else [])

-- the last bytes of a character, by number: none to three, of which the first is 128, 144 or 160
abbrev pub char_end : ℕ → List ℕ
char_end number = take (number % 4) ((128 + 16 * (number / 4)) ∷ 128 ∷ 128 ∷ [])

-- both
abbrev pub end_of : ℕ → ℕ → ℕ → List ℕ
end_of count value number = digits_of count value ++ char_end number

-- all of them, by number, of which there are 9,216
abbrev pub end_at : ℕ → List ℕ
end_at n = end_of (n / 3_072) (n / 12 % 256) (n % 12)
