-- What a reader keeps of the bytes that it has read. No public contract cites this.
use Rattle.std.specs.Prelude.{◌≡◌, ℕ, ◌<◌, List, [], ◌∷◌, ◌++◌, length, take}
use Rattle.segment_model.specs.Segments.{Position}
use Rattle.line_text.specs.Lines.{lines_of}
use Rattle.cut_lines.specs.{declared.reader.Reader.Reader, Lines.{CutLine, IsSkipped}, Points.points_of, Reading.{AreAcceptedWithin, IsFirstRefusedWithin}}
use Rattle.line_pieces.specs.{declared.stop.Stop.Stop, Pieces.OnRefused}

-- what is kept of bytes: how many positions there may be, the points of their whole lines, how many
-- those are, and the first bytes of the line that has begun
pub record Kept : Type 0 where
  pub most : ℕ
  pub points : List Position
  pub whole_lines : ℕ
  pub line : List ℕ

-- the bytes are whole lines, which are accepted, and a line that has begun
pub record HasKept (bytes : List ℕ) (kept : Kept) : Type 0 where
  pub lines : List (List ℕ)
  pub rest : List ℕ
  pub cuts : List CutLine
  pub split : lines_of bytes ≡ lines ++ rest ∷ []
  pub accepted : AreAcceptedWithin kept.most lines cuts
  pub points : kept.points ≡ points_of cuts
  pub whole : kept.whole_lines ≡ length lines
  pub begun : kept.line ≡ take 4_097 rest
  pub skipped : 4_096 < length rest → IsSkipped rest

-- what a reader keeps
abbrev pub kept_by : Reader → Kept
kept_by reader =
    record { most = reader.most; points = reader.points; whole_lines = reader.whole_lines; line = reader.line.items }

-- the reader has read the bytes
abbrev pub HasRead : List ℕ → Reader → Type 0
HasRead bytes reader = HasKept bytes (kept_by reader)

-- all lines of the bytes are accepted, and these are their points
abbrev pub AreLinesPoints : ℕ → List ℕ → List Position → Type 0
AreLinesPoints most bytes points =
    (cuts : List CutLine) × AreAcceptedWithin most (lines_of bytes) cuts × (points ≡ points_of cuts)

-- the bytes show that a line is refused, whatever comes behind them
abbrev pub ShowsRefused : ℕ → List ℕ → Stop → Type 0
ShowsRefused most bytes stop =
    OnRefused (λ why k. (more : List ℕ) → IsFirstRefusedWithin most why (lines_of (bytes ++ more)) k) stop

-- the bytes are all, and their last line is refused
abbrev pub EndsRefused : ℕ → List ℕ → Stop → Type 0
EndsRefused most bytes stop = OnRefused (λ why k. IsFirstRefusedWithin most why (lines_of bytes) k) stop

-- these are the points of all lines that it has read
abbrev pub HasPoints : Reader → List Position → Type 0
HasPoints old points = (read : List ℕ) → HasRead read old → AreLinesPoints old.most read points
