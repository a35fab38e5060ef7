-- What kind of line a line of benchmark output is, by its own characters alone.
use Rattle.std.specs.Prelude.{◌≡◌, ℕ, ◌-◌, ◌<◌, ◌≤◌, Bool, true, false, ◌&&◌, ◌==◌, List, [], ◌∷◌, ◌++◌, length, take, drop, codes, nat_eq, IsTrue}
use Rattle.std.specs.{List.{list_any, starts_with, before_first, after_first, prefix_len, suffix_len}, Str.chars}
use Rattle.fixed_value.specs.Numerals.{AreDigits, HasNumeral}
use Rattle.go_bench_text.specs.Bytes as byte
use Rattle.go_bench_text.specs.{Characters.{is_key, is_name, is_blank}, Fields.fields_of, declared.line.LineKind.LineKind}
use Rattle.go_bench_text.specs.declared.line.LineKind.TheVariants.{Config, Result, Broken, Other}

-- the line without the carriage returns at its end
abbrev pub without_returns : List ℕ → List ℕ
without_returns line = take (length line - suffix_len (λ b. b == byte.carriage_return) line) line

-- the colon that ends a key
abbrev pub is_colon : ℕ → Bool
is_colon b = b == byte.colon

-- what stands before the first colon
abbrev pub key_of : List ℕ → List ℕ
key_of line = before_first is_colon (without_returns line)

-- what stands behind the first colon
abbrev pub behind_key : List ℕ → List ℕ
behind_key line = after_first is_colon (without_returns line)

-- nothing, or a space or a tab first
abbrev pub is_set_off : List ℕ → Bool
is_set_off [] = true
is_set_off (b ∷ bs) = is_blank b

-- the bytes without the spaces and tabs that they begin with
abbrev pub without_blanks : List ℕ → List ℕ
without_blanks bs = drop (prefix_len is_blank bs) bs

-- a configuration line has a key, the line's first colon, and then nothing, or spaces or tabs and a value
abbrev pub is_config : List ℕ → Bool
is_config line =
    list_any is_colon (without_returns line) && (is_key (chars (key_of line)) && is_set_off (behind_key line))

-- the value begins behind the spaces and tabs, and may be empty
abbrev pub value_of : List ℕ → List ℕ
value_of line = without_blanks (behind_key line)

-- the line begins with `Benchmark`
abbrev pub begins : List ℕ → Bool
begins line = starts_with nat_eq line (codes "Benchmark")

-- the fields are pairs of a numeral and a unit of at most 64 bytes
abbrev pub ArePairs : List (List ℕ) → Type 0
ArePairs [] = Unit {0}
ArePairs (value ∷ []) = ⊥
ArePairs (value ∷ unit ∷ more) = HasNumeral value × (length unit ≤ 64) × ArePairs more

-- the line's first character begins the field `Benchmark` NAME, a field of digits follows, and then these fields
pub record IsHead (line name : List ℕ) (behind : List (List ℕ)) : Type 0 where
  pub count : List ℕ
  pub first : begins line ≡ true
  pub fields : fields_of line ≡ (codes "Benchmark" ++ name) ∷ count ∷ behind
  pub named : is_name (chars name) ≡ true
  pub counted : AreDigits count

-- and these are one or more pairs
pub record IsResult (line name : List ℕ) (pairs : List (List ℕ)) : Type 0 where
  pub head : IsHead line name pairs
  pub some : 0 < length pairs
  pub paired : ArePairs pairs

-- a result line, with some name and some pairs
abbrev pub IsResultLine : List ℕ → Type 0
IsResultLine line = (name : List ℕ) × (pairs : List (List ℕ)) × IsResult line name pairs

-- a line that begins with `Benchmark` and is no result line
abbrev pub IsBroken : List ℕ → Type 0
IsBroken line = (begins line ≡ true) × ¬ IsResultLine line

-- the line is of this kind
abbrev pub IsKind : List ℕ → LineKind → Type 0
IsKind line Config = IsTrue (is_config line)
IsKind line Result = IsResultLine line
IsKind line Broken = IsBroken line
IsKind line Other = ¬ IsTrue (is_config line) × (begins line ≡ false)
