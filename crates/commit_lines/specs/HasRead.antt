-- What a reader keeps of the bytes that it has read. No public contract cites this.
use Rattle.std.specs.Prelude.{◌≡◌, ◌⊎◌, ℕ, ◌<◌, ◌≤◌, List, [], ◌∷◌, ◌++◌, length, slice_index, Contains}
use Rattle.line_text.specs.Lines.{lines_of, words_of}
use Rattle.commit_lines.specs.declared.{line.LineKind.LineKind, line.LineKind.TheVariants.{Skipped, Named, Bad as BadKind}, reader.Reader.Reader}
use Rattle.line_pieces.specs.{declared.stop.Refusal.Refusal, declared.stop.Refusal.TheVariants.{Bad, Full}, declared.stop.Stop.Stop, Pieces.OnRefused}
use Rattle.commit_lines.specs.{Lines.{IsSkipped, IsNameLine}, Ends.end_at, Reading.{AreAccepted, HasBegun, IsFirstRefused, FrontRefuses}}

-- what a line of this kind says
abbrev pub IsKind : List ℕ → LineKind → Type 0
IsKind line Skipped = IsSkipped line
IsKind line (Named name) = IsNameLine line name
IsKind line BadKind = (¬ IsSkipped line) × ((name : List ℕ) → ¬ IsNameLine line name)

-- it says some name
abbrev pub SaysName : List ℕ → Type 0
SaysName line = (name : List ℕ) × IsNameLine line name

-- it says one with an end that is tried
abbrev pub IsTried : List ℕ → Type 0
IsTried line = (n : ℕ) × (n < 9_216) × SaysName (line ++ end_at n)

-- both begin with #, or have no word
abbrev pub AreSkipped : List ℕ → List ℕ → Type 0
AreSkipped one other =
    ((slice_index one 0 ≡ 35) × (slice_index other 0 ≡ 35))
    ⊎ ((words_of one ≡ []) × (words_of other ≡ []))

-- a line that is longer than a line may be, of which the first bytes are kept
pub record IsLong (kept line : List ℕ) : Type 0 where
  pub kept_long : 4_096 < length kept
  pub long : 4_096 < length line
  pub skipped : AreSkipped kept line

-- what is kept of a line: all of it, or the first bytes of one that is skipped
abbrev pub Keeps : List ℕ → List ℕ → Type 0
Keeps kept line = ((kept ≡ line) × (length line ≤ 4_096)) ⊎ IsLong kept line

-- what is kept of bytes: the names of their whole lines, how many those are, and the first bytes of the line that has begun
pub record Kept : Type 0 where
  pub names : List (List ℕ)
  pub whole_lines : ℕ
  pub line : List ℕ

-- the bytes are whole lines, which are accepted, and a line that has begun
pub record HasKept (bytes : List ℕ) (kept : Kept) : Type 0 where
  pub lines : List (List ℕ)
  pub rest : List ℕ
  pub begun : HasBegun bytes lines rest kept.names
  pub whole : kept.whole_lines ≡ length lines
  pub keeps : Keeps kept.line rest

-- what a reader keeps
abbrev pub kept_by : Reader → Kept
kept_by reader =
    record { names = reader.names.keys; whole_lines = reader.whole_lines; line = reader.line.items }

-- the reader has read the bytes
abbrev pub HasRead : List ℕ → Reader → Type 0
HasRead bytes reader = HasKept bytes (kept_by reader)

-- the bytes show that a line is refused, whatever comes behind them
abbrev pub ShowsRefused : List ℕ → Stop → Type 0
ShowsRefused bytes stop = OnRefused (λ why k. FrontRefuses why bytes k) stop

-- the bytes are all, and their last line is refused
abbrev pub EndsRefused : List ℕ → Stop → Type 0
EndsRefused bytes stop = OnRefused (λ why k. IsFirstRefused why (lines_of bytes) k) stop

-- these are the names of all lines that it has read
abbrev pub HasNames : Reader → List (List ℕ) → Type 0
HasNames old names = (read : List ℕ) → HasRead read old → AreAccepted (lines_of read) names

-- ---- the names

-- a new name came behind the others, and there are not too many
pub record AddsName (name : List ℕ) (old new : List (List ℕ)) : Type 0 where
  pub fresh : ¬ Contains old name
  pub few : length old < 65_536
  pub added : new ≡ old ++ name ∷ []

-- why a name doesn't come behind the others: it is one of them, or there are too many
abbrev pub RefusesName : List ℕ → List (List ℕ) → Refusal → Type 0
RefusesName name old Bad = Contains old name
RefusesName name old Full = (65_536 ≤ length old) × (¬ Contains old name)

-- the line is skipped, or its name came behind the others
abbrev pub TakesLine : List ℕ → List (List ℕ) → List (List ℕ) → Type 0
TakesLine line old new =
    (IsSkipped line × (new ≡ old)) ⊎ ((name : List ℕ) × IsNameLine line name × AddsName name old new)
