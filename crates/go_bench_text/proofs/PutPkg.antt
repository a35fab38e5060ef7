-- The line that sets `pkg`, as it is read.
use Rattle.std.proofs.lemmas.Grind.{common_steps}
use Rattle.std.proofs.Common.{◌≡◌, ◌≢◌, ℕ, ◌+◌, ◌-◌, ◌<◌, Bool, true, false, ◌&&◌, cond, List, [], ◌∷◌, ◌++◌, length, drop, get_or, refl, ◌∙◌, ap, arith, eqb}
use Rattle.std.{specs.Prelude.{codes, bytes_eq}, specs.List.{list_any, prefix_len, before_first, after_first}, specs.Str.chars, proofs.lemmas.Str.chars-IsAscii}
use Rattle.unicode.specs.{GeneralCategory.general_category, Rows.value_in}
use Rattle.ucd_category.specs.GeneralCategoryRows.{general_category_rows}
use Rattle.go_bench_text.specs.{Characters.{is_key, is_blank}, Lines.{is_colon, value_of, without_returns, without_blanks, is_set_off, begins}}
use Rattle.go_bench_text.{specs.Readings.sets_pkg, specs.Spellings.pkg_line, proofs.Settings.returns_none, proofs.PutFields.ascii_word}

-- `pkg` is a key
key_chars : is_key (codes "pkg") ≡ true
unfolding general_category general_category_rows value_in
key_chars = refl

key_is : is_key (chars (codes "pkg")) ≡ true
key_is = ap is_key (chars-IsAscii (codes "pkg") (ascii_word (codes "pkg") refl)) ∙ key_chars

-- what is known of the value that is put
pub record MayFollow (pkg : List ℕ) : Type 0 where
  pub first : is_blank (get_or pkg 0 0) ≡ false
  pub last : eqb (get_or pkg (length pkg - 1) 0) 13 ≡ false

-- a list that ends with a carriage return has it at its last place
ends_so : (xs front : List ℕ) → xs ≡ front ++ 13 ∷ [] → get_or xs (length xs - 1) 0 ≡ 13
ends_so xs front e = grind (arith, common_steps)

not_ended : (xs : List ℕ) → eqb (get_or xs (length xs - 1) 0) 13 ≡ false → (front : List ℕ) → xs ≢ front ++ 13 ∷ []
not_ended xs h front e = grind (arith, common_steps)

-- the line has no carriage return at its end
last_of : (front pkg : List ℕ) → 0 < length pkg → get_or (front ++ pkg) (length (front ++ pkg) - 1) 0 ≡ get_or pkg (length pkg - 1) 0
last_of front pkg some = grind (arith, common_steps)

pub whole_line : (b : ℕ) (pkg : List ℕ) → MayFollow (b ∷ pkg) → without_returns (codes "pkg: " ++ b ∷ pkg) ≡ codes "pkg: " ++ b ∷ pkg
whole_line b pkg may = grind (arith, common_steps)

no_blanks : (b : ℕ) (pkg : List ℕ) → is_blank b ≡ false → without_blanks (32 ∷ b ∷ pkg) ≡ b ∷ pkg
no_blanks b pkg h = ap (λ (t : Bool). drop (1 + cond t (1 + prefix_len is_blank pkg) 0) (32 ∷ b ∷ pkg)) h

-- what the line sets
pub record Sets (line pkg : List ℕ) : Type 0 where
  pub sets : sets_pkg line ≡ true
  pub value : value_of line ≡ pkg
  pub off : begins line ≡ false

config_of : (line rest : List ℕ) → without_returns line ≡ 112 ∷ 107 ∷ 103 ∷ 58 ∷ rest → is_set_off rest ≡ true → sets_pkg line ≡ true
config_of line rest e off =
    ap (λ (body : List ℕ). (list_any is_colon body && (is_key (chars (before_first is_colon body)) && is_set_off (after_first is_colon body))) && bytes_eq (before_first is_colon body) (codes "pkg")) e ∙ there where
      key_on : (is_key (chars (codes "pkg")) && is_set_off rest) ≡ true
      key_on = ap (λ (b : Bool). b && is_set_off rest) key_is ∙ off

      there : ((is_key (chars (codes "pkg")) && is_set_off rest) && bytes_eq (codes "pkg") (codes "pkg")) ≡ true
      there = ap (λ (b : Bool). b && bytes_eq (codes "pkg") (codes "pkg")) key_on

value_in_line : (line rest : List ℕ) → without_returns line ≡ 112 ∷ 107 ∷ 103 ∷ 58 ∷ rest → value_of line ≡ without_blanks rest
value_in_line line rest e = ap (λ (body : List ℕ). without_blanks (after_first is_colon body)) e

pub sets_none : Sets (pkg_line []) []
sets_none =
    let body : without_returns (codes "pkg:") ≡ codes "pkg:" = returns_none (codes "pkg:") (not_ended (codes "pkg:") refl) in
    record { sets = config_of (codes "pkg:") [] body refl; value = value_in_line (codes "pkg:") [] body; off = refl }

pub sets_some : (b : ℕ) (pkg : List ℕ) → MayFollow (b ∷ pkg) → Sets (pkg_line (b ∷ pkg)) (b ∷ pkg)
sets_some b pkg may =
    let body = whole_line b pkg may in
    record {
      sets = config_of (codes "pkg: " ++ b ∷ pkg) (32 ∷ b ∷ pkg) body refl;
      value = value_in_line (codes "pkg: " ++ b ∷ pkg) (32 ∷ b ∷ pkg) body ∙ no_blanks b pkg may.first;
      off = refl;
    }
