-- The classes of characters that tell lines apart. Upper and lower case are the general categories Lu and Ll of Unicode.
use Rattle.std.specs.{Prelude.{ℕ, Bool, true, false, not, ◌&&◌, ◌||◌, ◌==◌, List, [], ◌∷◌}, Char.is_whitespace, List.list_all}
use Rattle.go_bench_text.specs.Bytes as byte
use Rattle.unicode.specs.GeneralCategory.{general_category, general_category_eq}
use Rattle.ucd_category.specs.declared.GeneralCategory.TheVariants.{UppercaseLetter, LowercaseLetter}

-- an upper case letter
abbrev pub is_upper : ℕ → Bool
is_upper c = general_category_eq (general_category c) UppercaseLetter

-- a lower case letter
abbrev pub is_lower : ℕ → Bool
is_lower c = general_category_eq (general_category c) LowercaseLetter

-- a character that is not white space
abbrev pub is_black : ℕ → Bool
is_black c = not (is_whitespace c)

-- a character that may stand in a key: neither white space nor upper case
abbrev pub is_of_key : ℕ → Bool
is_of_key c = is_black c && not (is_upper c)

-- the characters of a key: a lower case one first, none white space or upper case
abbrev pub is_key : List ℕ → Bool
is_key [] = false
is_key (c ∷ cs) = is_lower c && list_all is_of_key (c ∷ cs)

-- what may stand behind `Benchmark`: nothing, or an upper case character and anything
abbrev pub is_name : List ℕ → Bool
is_name [] = true
is_name (c ∷ cs) = is_upper c

-- a space or a tab
abbrev pub is_blank : ℕ → Bool
is_blank b = b == byte.space || b == byte.tab
