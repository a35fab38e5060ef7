-- Words that spell themselves: of plain bytes, as digits are.
use Rattle.std.proofs.Common.{◌≡◌, ℕ, ◌^◌, ◌<◌, ◌≤◌, Bool, true, false, ◌&&◌, List, [], ◌∷◌, ◌++◌, length, get_or, refl, sym, ap, ◌∙◌, subst, arith}
use Rattle.std.specs.{Prelude.{decimal, nat_lt, if◌then◌else◌}, List.list_all, Int.IsInRange, Str.IsAscii, Str.Parse.AllDigits}
use Rattle.std.proofs.lemmas.{Str.IsUtf8-from_ascii, Str.Parse.digit_from_value, Bool.and_from, Bool.Decides.nat_tests}
use Rattle.std.proofs.lemmas.{Fmt.{decimal_is_IsNumeral, length-decimal-le}, List.Concat.flat_map-cons}
use Rattle.std.proofs.lemmas.List.Sums.{AllPass-from_list_all, list_all-from_AllPass}
use Rattle.line_text.specs.Names.{IsName, is_plain, byte_spelling, spelling, Spells, NamesAreSpelledBack}
use Rattle.go_bench_text.proofs.PutFields.{ascii_word}
use Rattle.request_words.specs.Forms.{name_of, SpellsName}
use Rattle.request_text.proofs.WrittenLines.{IsShortWord, name_word}

pub all_weaker : (p q : ℕ → Bool) → ((b : ℕ) → p b ≡ true → q b ≡ true) → (xs : List ℕ) → list_all p xs ≡ true → list_all q xs ≡ true
all_weaker p q weaker xs all = list_all-from_AllPass q xs (λ k d l. weaker (get_or xs k d) (AllPass-from_list_all p xs all k d l))

-- ---- digits

digit_plain : (b : ℕ) → IsInRange 48 57 b → is_plain b ≡ true
digit_plain b is = grind (arith, nat_tests)

digits_plain : (ds : List ℕ) → AllDigits 10 ds → list_all is_plain ds ≡ true
digits_plain [] are = refl
digits_plain (d ∷ ds) are = and_from (is_plain d) (list_all is_plain ds) (digit_plain d (digit_from_value d are.0)) (digits_plain ds are.1)

pub decimal_plain : (n : ℕ) → n < 2 ^ 64 → list_all is_plain (decimal n) ≡ true
decimal_plain n small = digits_plain (decimal n) (decimal_is_IsNumeral n small).0.1

-- ---- a name that spells itself

pub record IsOwnWord (word : List ℕ) : Type 0 where
  pub spells : SpellsName word
  pub back : name_of word ≡ word
  pub short : IsShortWord word

plain_low : (b : ℕ) → is_plain b ≡ true → nat_lt b 128 ≡ true
plain_low b is = grind (arith, nat_tests)

pub plain_ascii : (word : List ℕ) → list_all is_plain word ≡ true → IsAscii word
plain_ascii word plain = ascii_word word (all_weaker is_plain (λ b. nat_lt b 128) plain_low word plain)

byte_same : (plain : Bool) (b : ℕ) (other : List ℕ) → plain ≡ true → (if plain then b ∷ [] else other) ≡ b ∷ []
byte_same plain b other is = rw is refl

first_true : (p q : Bool) → (p && q) ≡ true → (p ≡ true) × (q ≡ true)
first_true true q is = (refl, is)
first_true false q is = absurd (let no : false ≡ true = is in cc)

spelling_same : (word : List ℕ) → list_all is_plain word ≡ true → spelling word ≡ word
spelling_same [] plain = refl
spelling_same (b ∷ word) plain =
    let both = first_true (is_plain b) (list_all is_plain word) plain in
    flat_map-cons byte_spelling b word ∙ ap (λ (bs : List ℕ). bs ++ spelling word) (byte_same (is_plain b) b _ both.0) ∙ ap (λ (bs : List ℕ). b ∷ bs)
    (spelling_same word both.1)

pub plain_name : (word : List ℕ) → list_all is_plain word ≡ true → 0 < length word → length word ≤ 256 → IsName word
plain_name word plain some few = record { text = IsUtf8-from_ascii word (plain_ascii word plain); some = some; short = few }

pub own_word : NamesAreSpelledBack → (word : List ℕ) → list_all is_plain word ≡ true → 0 < length word → length word ≤ 256 → IsOwnWord word
own_word law word plain some few =
    let is : IsName word = plain_name word plain some few in
    let same : spelling word ≡ word = spelling_same word plain in
    let spells : Spells word word = subst (λ (w : List ℕ). Spells w word) same (law word is).0 in
    record {
      spells = subst (Spells word) (sym spells.decoded) spells;
      back = spells.decoded;
      short = subst IsShortWord same (name_word law word is);
    }

-- a letter and a number
pub numbered_plain : (letter : ℕ) (n : ℕ) → is_plain letter ≡ true → n < 2 ^ 64 → list_all is_plain (letter ∷ decimal n) ≡ true
numbered_plain letter n plain small = and_from (is_plain letter) (list_all is_plain (decimal n)) plain (decimal_plain n small)

pub numbered : NamesAreSpelledBack → (letter : ℕ) (n : ℕ) → is_plain letter ≡ true → n < 2 ^ 64 → IsOwnWord (letter ∷ decimal n)
numbered law letter n plain small =
    own_word law (letter ∷ decimal n) (numbered_plain letter n plain small) (omega arith)
    (omega (arith, length-decimal-le 20 n (omega arith) (omega (arith, small)) small))
