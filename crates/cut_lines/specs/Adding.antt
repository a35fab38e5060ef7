-- What the end of a line does to the points, and why it is refused. No public contract
-- cites this.
use Rattle.std.specs.Prelude.{◌≡◌, ℕ, ℤ, ◌<◌, ◌≤◌, ◌⊎◌, List, length}
use Rattle.segment_model.specs.{Segments.{Position, values_of}, Limits.WithinLimits, Edits.inserted}
use Rattle.line_pieces.specs.{declared.stop.Refusal.Refusal, declared.stop.Refusal.TheVariants.{Bad, Full}, declared.stop.Stop.Stop, Pieces.OnRefused}
use Rattle.cut_lines.specs.Lines.{IsSkipped, IsCutLine, IsGood}

-- the points with the value of a line more
abbrev pub with_value_of : List Position → ℕ → ℕ → ℤ → List Position
with_value_of points number order value =
    inserted order (record { step = number; value = value }) points

-- there are all values of a series already, or one more makes too many positions
abbrev pub PassesLimit : ℕ → List Position → ℕ → ℕ → ℤ → Type 0
PassesLimit most points number order value =
    (65_536 ≤ length (values_of points))
    ⊎ (most < length (with_value_of points number order value))

-- behind these points, the line of this number is refused, and this is why
abbrev pub BreaksPoints : ℕ → Refusal → List Position → ℕ → List ℕ → Type 0
BreaksPoints most Bad points number line = ¬ IsGood line
BreaksPoints most Full points number line =
    (order : ℕ) × (value : ℤ) × IsCutLine line order value × PassesLimit most points number order value

-- the line of this number is refused
abbrev pub RefusesLine : ℕ → List ℕ → ℕ → List Position → Stop → Type 0
RefusesLine most line number old stop =
    OnRefused
    (λ why k. (k ≡ number) × (length line ≤ 4_096) × BreaksPoints most why old number line)
    stop

-- the value came in, within the limits
pub record AddsValue (most number order : ℕ) (value : ℤ) (old new : List Position) : Type 0 where
  pub limits : WithinLimits new
  pub few : length new ≤ most
  pub added : new ≡ with_value_of old number order value

-- the line is skipped, or its value came in
abbrev pub TakesLine : ℕ → List ℕ → ℕ → List Position → List Position → Type 0
TakesLine most line number old new =
    ((length line ≤ 4_096 → IsSkipped line) × (new ≡ old))
    ⊎ ((order : ℕ) × (value : ℤ) × IsCutLine line order value
    × AddsValue most number order value old new)
