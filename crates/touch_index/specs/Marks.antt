-- What an index keeps of each series.
use Rattle.std.specs.{Prelude.{◌≡◌, ◌≢◌, ℕ, false, List, Option, Some, None}, declared.cmp.Ordering.Ordering, Ordering.{nat_cmp, is_eq, is_lt, ordering_then}}
use Rattle.std.specs.{Cmp.Lexicographic.slice_cmp, Map.lookup}
use Rattle.touch_index.specs.declared.{key.SeriesKey.SeriesKey, mark.Claim.Claim, mark.Claim.TheVariants.{Free, Taken, Refused}, mark.Mark.Mark}

-- the series that have marks, in their order
abbrev pub Entries : Type 0
Entries = List (SeriesKey × Mark)

-- by the bytes of the test, then of the metric
abbrev pub key_cmp : SeriesKey → SeriesKey → Ordering
key_cmp one other = ordering_then (slice_cmp nat_cmp one.test other.test) (slice_cmp nat_cmp one.metric other.metric)

-- the mark of a series, if it has one
abbrev pub mark_of : SeriesKey → Entries → Option Mark
mark_of key es = lookup (λ (q : SeriesKey). is_eq (key_cmp key q)) es

-- the claim of a series that was touched: what a limit refused is free again
abbrev pub touched_claim : Claim → Claim
touched_claim Free = Free
touched_claim Taken = Taken
touched_claim Refused = Free

-- its mark then
abbrev pub touched_mark : ℕ → Option Mark → Mark
touched_mark step None = record { touched = step; claim = Free }
touched_mark step (Some m) = record { touched = step; claim = touched_claim m.claim }

-- a mark with another claim
abbrev pub with_claim : Claim → Option Mark → Option Mark
with_claim claim None = None
with_claim claim (Some m) = Some (record { touched = m.touched; claim = claim })

-- the series has a mark that nobody claims, and no series before it has one
pub record IsFirstFree (es : Entries) (key : SeriesKey) (step : ℕ) : Type 0 where
  pub free : mark_of key es ≡ Some (record { touched = step; claim = Free })
  pub least : (q : SeriesKey) (m : Mark) → mark_of q es ≡ Some m → m.claim ≡ Free
      → is_lt (key_cmp q key) ≡ false

-- no series with a mark is free
abbrev pub NoneIsFree : Entries → Type 0
NoneIsFree es = (q : SeriesKey) (m : Mark) → mark_of q es ≡ Some m → m.claim ≢ Free
