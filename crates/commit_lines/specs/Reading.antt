-- How the lines of an input read: they are accepted as a whole, or a line is the first that is refused.
use Rattle.std.specs.{Prelude.{◌≡◌, ◌≢◌, ℕ, ◌+◌, ◌^◌, ◌<◌, ◌≤◌, ◌⊎◌, List, [], ◌∷◌, ◌++◌, Option, IfSome, length, Contains}, List.AllPairs}
use Rattle.line_text.specs.Lines.{lines_of}
use Rattle.line_pieces.specs.{Stops.within_limit, declared.stop.Refusal.Refusal, declared.stop.Refusal.TheVariants.{Bad, Full}}
use Rattle.commit_lines.specs.Lines.{IsNameLine, IsGood, AreNames, MayGo}

-- the lines are read, and these are their names, of which no two are equal
pub record AreAccepted (lines names : List (List ℕ)) : Type 0 where
  pub read : AreNames lines names
  pub different : AllPairs (λ one other. one ≢ other) names
  pub few : length names ≤ 65_536

-- behind these names the line is refused, and this is why: it is neither skipped nor says a new name; or it does, and there
-- are as many as there may be
abbrev pub Breaks : Refusal → List (List ℕ) → List ℕ → Type 0
Breaks Bad names line = ¬ IsGood names line
Breaks Full names line =
    (65_536 ≤ length names) × ((name : List ℕ) × IsNameLine line name × (¬ Contains names name))

-- line k, counted from 1, is the first that isn't accepted, and this is why
pub record IsFirstRefused (why : Refusal) (lines : List (List ℕ)) (k : ℕ) : Type 0 where
  pub before : List (List ℕ)
  pub line : List ℕ
  pub behind : List (List ℕ)
  pub names : List (List ℕ)
  pub split : lines ≡ before ++ line ∷ behind
  pub number : k ≡ length before + 1
  pub accepted : AreAccepted before names
  pub refused : Breaks why names line

-- the bytes are these whole lines and one that has begun, and the whole lines are accepted with these names
pub record HasBegun (bytes : List ℕ) (lines : List (List ℕ)) (rest : List ℕ) (names : List (List ℕ)) : Type 0 where
  pub split : lines_of bytes ≡ lines ++ rest ∷ []
  pub accepted : AreAccepted lines names

-- the bytes refuse line k, whatever comes behind them: a whole line, or the one that has begun and may not go on
abbrev pub FrontRefuses : Refusal → List ℕ → ℕ → Type 0
FrontRefuses why bytes k =
    ((lines : List (List ℕ)) × (rest : List ℕ) × (lines_of bytes ≡ lines ++ rest ∷ []) × IsFirstRefused why lines k)
    ⊎ ((lines : List (List ℕ)) × (rest : List ℕ) × (names : List (List ℕ)) × HasBegun bytes lines rest names
    × (why ≡ Bad) × (k ≡ length lines + 1) × (¬ MayGo names rest))

-- the whole lines are accepted, and the line that has begun may go on
abbrev pub MayGoOn : List ℕ → Type 0
MayGoOn bytes =
    (lines : List (List ℕ)) × (rest : List ℕ) × (names : List (List ℕ)) × HasBegun bytes lines rest names × MayGo names rest

-- the input refuses line k: the first 2^30 bytes do, or there are no more, and the last line is refused
abbrev pub Refuses : Refusal → List ℕ → ℕ → Type 0
Refuses why bytes k =
    FrontRefuses why (within_limit bytes) k ⊎ ((length bytes ≤ 2 ^ 30) × IsFirstRefused why (lines_of bytes) k)

-- no line within the limit is refused, and there are more bytes
abbrev pub IsTooLong : List ℕ → Type 0
IsTooLong bytes = (2 ^ 30 < length bytes) × MayGoOn (within_limit bytes)

-- all of the bytes are accepted, and these are their names
pub record AreNamesOf (bytes : List ℕ) (names : List (List ℕ)) : Type 0 where
  pub short : length bytes ≤ 2 ^ 30
  pub accepted : AreAccepted (lines_of bytes) names

-- they are the names of the bytes that an input had left, where it tells them
abbrev pub AreNamesOfInput : Option (List ℕ) → List (List ℕ) → Type 0
AreNamesOfInput left names = IfSome left (λ bytes. AreNamesOf bytes names)
