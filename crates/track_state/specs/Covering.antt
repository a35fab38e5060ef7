-- No public contract cites this. What the marks of series tell of a history, of which so many first entries were
-- looked at.
use Rattle.std.specs.Prelude.{◌≡◌, ◌≤◌, ◌⊎◌, ℕ, Bool, true, false, nat_lt, ◌&&◌, if◌then◌else◌, List, length, take, Option, Some, None}
use Rattle.history_model.specs.{declared.entries.Entry.Entry, Publications.last_publication, Runs.{Series, is_known, same_series}}
use Rattle.touch_index.specs.{Marks.{Entries, mark_of, touched_mark}, declared.mark.Claim.TheVariants.{Free, Refused}, declared.key.SeriesKey.SeriesKey}
use Rattle.touch_index.specs.declared.mark.Mark.{Mark}
use Rattle.touch_model.specs.{Stale.is_behind, Touches.{touches, last_touch}}
use Rattle.track_state.specs.Work.{key_of, claim_by}

-- a series is stale by the entries that were looked at
abbrev pub stale_by : ℕ → List Entry → Series → Bool
stale_by seen h s = is_known s (take seen h) && is_behind (last_touch (take seen h) s) (last_publication s h)

-- a mark has the last touch of those entries, or a later one; or one that isn't behind the last publication
pub record IsMark (h : List Entry) (seen : ℕ) (s : Series) (m : Mark) : Type 0 where
  pub known : is_known s h ≡ true
  pub since : last_touch (take seen h) s ≤ m.touched
  pub past : m.touched ≤ length h
  pub touch : (m.touched ≤ last_touch h s) ⊎ (is_behind m.touched (last_publication s h) ≡ false)
  pub refused : m.claim ≡ Refused → m.touched ≤ seen

-- a series without a mark isn't stale by them
abbrev pub Fits : List Entry → ℕ → Series → Option Mark → Type 0
Fits h seen s None = stale_by seen h s ≡ false
Fits h seen s (Some m) = IsMark h seen s m

pub record Covers (h : List Entry) (seen : ℕ) (marks : Entries) : Type 0 where
  pub seen_are : seen ≤ length h
  pub each : (s : Series) → Fits h seen s (mark_of (key_of s) marks)

-- the series that pass a test were touched in a step, and no others
abbrev pub AreTouched : (Series → Bool) → ℕ → Entries → Entries → Type 0
AreTouched which step old new =
    (s : Series) → mark_of (key_of s) new
    ≡ (if which s then Some (touched_mark step (mark_of (key_of s) old))
    else mark_of (key_of s) old)

-- some of them were
abbrev pub SomeAreTouched : (Series → Bool) → ℕ → Entries → Entries → Type 0
SomeAreTouched which step old new =
    (s : Series) → (mark_of (key_of s) new ≡ mark_of (key_of s) old)
    ⊎ ((which s ≡ true)
    × (mark_of (key_of s) new ≡ Some (touched_mark step (mark_of (key_of s) old))))

-- the claims that the marks make stay
abbrev pub MakeSame : List Entry → Entries → Entries → Type 0
MakeSame h old new = (s : Series) → claim_by h s (mark_of (key_of s) new)
    ≡ claim_by h s (mark_of (key_of s) old)

-- the claim on one series becomes what a limit leaves that refused a segmentation of a version: nobody takes it, unless an
-- entry touched it since; the claims on all others stay
abbrev pub IsRefusedBy : List Entry → Series → ℕ → Entries → Entries → Type 0
IsRefusedBy h s version old new =
    (t : Series) → claim_by h t (mark_of (key_of t) new)
    ≡ (if same_series s t then (if nat_lt version (last_touch h s) then Free else Refused)
    else claim_by h t (mark_of (key_of t) old))

-- a test tells the known series that an entry touches, which stands behind so many
pub record IsTest (h : List Entry) (place : ℕ) (e : Entry) (which : Series → Bool) : Type 0 where
  pub just : (s : Series) → which s ≡ true → (touches (take place h) s e ≡ true)
      × (is_known s h ≡ true)
  pub each : (s : Series) → touches (take place h) s e ≡ true → is_known s h ≡ true → which s ≡ true

-- a series has a mark with this step
pub record IsMarked (marks : Entries) (key : SeriesKey) (step : ℕ) : Type 0 where
  pub mark : Mark
  pub there : mark_of key marks ≡ Some mark
  pub touched : mark.touched ≡ step
