-- What a line says to the command `hunt`.
use Rattle.std.specs.Prelude.{◌≡◌, ◌≢◌, ◌≤◌, ◌⊎◌, ℕ, List, [], ◌∷◌, ◌++◌, length, slice_index, Contains}
use Rattle.line_text.specs.{Lines.words_of, Names.Spells}

-- the first byte is #, or there is no word
abbrev pub IsSkipped : List ℕ → Type 0
IsSkipped line = (slice_index line 0 ≡ 35) ⊎ (words_of line ≡ [])

-- one word, which spells the name, in at most 4,096 bytes, of which the first is no #
pub record IsNameLine (line name : List ℕ) : Type 0 where
  pub short : length line ≤ 4_096
  pub other : slice_index line 0 ≢ 35
  pub word : List ℕ
  pub one : words_of line ≡ word ∷ []
  pub spells : Spells word name

-- behind these names the line is skipped, or says a name that is none of them
abbrev pub IsGood : List (List ℕ) → List ℕ → Type 0
IsGood names line = IsSkipped line ⊎ ((name : List ℕ) × IsNameLine line name × (¬ Contains names name))

-- each of the lines is skipped or says a name, and these are the names, in order
abbrev pub AreNames : List (List ℕ) → List (List ℕ) → Type 0
AreNames [] names = names ≡ []
AreNames (line ∷ lines) names =
    (IsSkipped line × AreNames lines names)
    ⊎ ((name : List ℕ) × (rest : List (List ℕ)) × (names ≡ name ∷ rest) × IsNameLine line name × AreNames lines rest)

-- the last byte is a space
abbrev pub EndsWithSpace : List ℕ → Type 0
EndsWithSpace line = (front : List ℕ) × (line ≡ front ++ 32 ∷ [])

-- a line is skipped so far, or some bytes behind it make it say a name
abbrev pub MayBecomeName : List ℕ → Type 0
MayBecomeName line =
    IsSkipped line ⊎ ((more : List ℕ) × (name : List ℕ) × IsNameLine (line ++ more) name)

-- behind these names a line that has begun may go on: where a space has ended what it says, that is good; and it may
-- become a name
pub record MayGo (names : List (List ℕ)) (line : List ℕ) : Type 0 where
  pub ended : EndsWithSpace line → IsGood names line
  pub becomes : MayBecomeName line
