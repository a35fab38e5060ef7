-- How the lines of an input read: they are accepted as a whole, or a line is the first that is
-- refused. There may be so many positions, most of them, as a reader is given; a series has 16,384.
use Rattle.std.specs.Prelude.{◌≡◌, ℕ, ℤ, ◌+◌, ◌^◌, ◌<◌, ◌≤◌, List, [], ◌∷◌, ◌++◌, Option, IfSome, length}
use Rattle.segment_model.specs.Segments.{Position}
use Rattle.line_text.specs.Lines.{lines_of}
use Rattle.line_pieces.specs.{Stops.within_limit, declared.stop.Refusal.Refusal, declared.stop.Refusal.TheVariants.{Bad, Full}}
use Rattle.cut_lines.specs.{Lines.{CutLine, IsCutLine, IsGood, MayBecomeGood, AreCutLines}, Points.{points_of, FitsWithin}}

-- the lines are read, and these are their cut lines
pub record AreAcceptedWithin (most : ℕ) (lines : List (List ℕ)) (cuts : List CutLine) : Type 0 where
  pub read : AreCutLines 1 lines cuts
  pub fits : FitsWithin most cuts

-- the cut lines so far, and then this one
abbrev pub with_line : List CutLine → ℕ → ℕ → ℤ → List CutLine
with_line cuts number order value =
    cuts ++ record { number = number; order = order; value = value } ∷ []

-- behind these cut lines, the line of this number is refused, and this is why: it is neither
-- skipped nor a cut line, or it is a cut line that would pass a limit
abbrev pub BreaksWithin : ℕ → Refusal → List CutLine → ℕ → List ℕ → Type 0
BreaksWithin most Bad cuts number line = ¬ IsGood line
BreaksWithin most Full cuts number line =
    (order : ℕ) × (value : ℤ) × IsCutLine line order value
    × (¬ FitsWithin most (with_line cuts number order value))

-- line k, counted from 1, is the first that isn't accepted, and this is why
pub record IsFirstRefusedWithin (most : ℕ) (why : Refusal) (lines : List (List ℕ)) (k : ℕ) : Type 0 where
  pub before : List (List ℕ)
  pub line : List ℕ
  pub behind : List (List ℕ)
  pub cuts : List CutLine
  pub split : lines ≡ before ++ line ∷ behind
  pub number : k ≡ length before + 1
  pub accepted : AreAcceptedWithin most before cuts
  pub refused : BreaksWithin most why cuts k line

-- line k is the first that is refused, whatever comes behind the first 2^30 bytes where there are
-- more
abbrev pub RefusesWithin : ℕ → Refusal → List ℕ → ℕ → Type 0
RefusesWithin most why bytes k =
    (more : List ℕ) → (length bytes ≤ 2 ^ 30 → more ≡ [])
    → IsFirstRefusedWithin most why (lines_of (within_limit bytes ++ more)) k

-- the whole lines are accepted, and the line that has begun may become good
pub record MayGoOnWithin (most : ℕ) (bytes : List ℕ) : Type 0 where
  pub lines : List (List ℕ)
  pub rest : List ℕ
  pub cuts : List CutLine
  pub split : lines_of bytes ≡ lines ++ rest ∷ []
  pub accepted : AreAcceptedWithin most lines cuts
  pub may : MayBecomeGood rest

-- no line within the limit is refused, and there are more bytes
abbrev pub IsTooLongWithin : ℕ → List ℕ → Type 0
IsTooLongWithin most bytes = (2 ^ 30 < length bytes) × MayGoOnWithin most (within_limit bytes)

-- all of the bytes are accepted, and these are their cut lines
pub record AreCutLinesWithin (most : ℕ) (bytes : List ℕ) (cuts : List CutLine) : Type 0 where
  pub short : length bytes ≤ 2 ^ 30
  pub accepted : AreAcceptedWithin most (lines_of bytes) cuts

-- all of the bytes are accepted, and these are their points
abbrev pub ArePointsWithin : ℕ → List ℕ → List Position → Type 0
ArePointsWithin most bytes points =
    (cuts : List CutLine) × AreCutLinesWithin most bytes cuts × (points ≡ points_of cuts)

-- they are the points of the bytes that an input had left, where it tells them
abbrev pub AreInputPointsWithin : ℕ → Option (List ℕ) → List Position → Type 0
AreInputPointsWithin most left points = IfSome left (λ bytes. ArePointsWithin most bytes points)

-- ---- within the limits of a series

-- all of the bytes are accepted, and these are their points
abbrev pub ArePointsOf : List ℕ → List Position → Type 0
ArePointsOf bytes points = ArePointsWithin 16_384 bytes points

-- they are the points of the bytes that an input had left, where it tells them
abbrev pub ArePointsOfInput : Option (List ℕ) → List Position → Type 0
ArePointsOfInput left points = AreInputPointsWithin 16_384 left points
