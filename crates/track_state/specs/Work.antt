-- A machine's state with what workers have taken of it: which series and jobs are claimed.
use Rattle.std.specs.{Prelude.{◌≡◌, ℕ, true, false, nat_lt, if◌then◌else◌, List, [], Option, Some, None}, Ordering.is_lt}
use Rattle.std.specs.FinSet as set
use Rattle.history_model.specs.{declared.entries.Entry.Entry, Entries.entries_of, Runs.{Series, same_series}, SeriesOrder.series_cmp}
use Rattle.touch_index.specs.{Marks.{Entries, mark_of, touched_claim}, declared.key.SeriesKey.SeriesKey, declared.mark.Claim.Claim}
use Rattle.touch_index.specs.declared.mark.{Claim.TheVariants.{Free, Taken}, Mark.Mark}
use Rattle.touch_model.specs.{Stale.is_stale, Touches.last_touch}
use Rattle.track_model.specs.Tracks.{Track, with_home}

-- a machine without its tables: no history shows which of them are home
abbrev pub bare : Track → Track
bare t = with_home set.empty t

-- the machine, what is marked of its series, and the numbers of the jobs that are claimed
pub record Work : Type 0 where
  pub track : Track
  pub marks : Entries
  pub jobs : List ℕ

-- a machine of which nothing is claimed
abbrev pub unclaimed : Track → Work
unclaimed t = record { track = t; marks = []; jobs = [] }

abbrev pub history_of : Work → List Entry
history_of w = entries_of w.track.history

abbrev pub key_of : Series → SeriesKey
key_of s = record { test = s.test; metric = s.metric }

abbrev pub series_of : SeriesKey → Series
series_of key = record { test = key.test; metric = key.metric }

-- the claim that a mark makes on a series: one that a limit left ends once an entry touches the series
abbrev pub claim_by : List Entry → Series → Option Mark → Claim
claim_by h s None = Free
claim_by h s (Some m) = if nat_lt m.touched (last_touch h s) then touched_claim m.claim else m.claim

-- the claim on a series: it is free, taken, or refused by a limit
abbrev pub claim_on : Series → Work → Claim
claim_on s w = claim_by (history_of w) s (mark_of (key_of s) w.marks)

-- no worker has taken a series of it, or a job
pub record IsUntaken (w : Work) : Type 0 where
  pub series : (s : Series) → claim_on s w ≡ Taken → ⊥
  pub jobs : w.jobs ≡ []

-- the claims on all series stay
abbrev pub ClaimsStay : Work → Work → Type 0
ClaimsStay old new = (s : Series) → claim_on s new ≡ claim_on s old

-- the claim on one series becomes this one, and those on all others stay
abbrev pub ClaimBecomes : Series → Claim → Work → Work → Type 0
ClaimBecomes s claim old new = (t : Series) → claim_on t new
    ≡ (if same_series s t then claim else claim_on t old)

-- the machine, its history and all claims stay
pub record IsSame (old new : Work) : Type 0 where
  pub track : new.track ≡ old.track
  pub claims : ClaimsStay old new
  pub jobs : new.jobs ≡ old.jobs

-- by its marks, a series of a history is open to workers where it is stale and nobody claims it
pub record IsOpenBy (h : List Entry) (marks : Entries) (s : Series) : Type 0 where
  pub stale : is_stale h s ≡ true
  pub free : claim_by h s (mark_of (key_of s) marks) ≡ Free

-- no series is
abbrev pub NoneIsOpenBy : List Entry → Entries → Type 0
NoneIsOpenBy h marks = (s : Series) → IsOpenBy h marks s → ⊥

-- it is the first of those that are, by the bytes of test, then metric
pub record IsFirstBy (h : List Entry) (marks : Entries) (s : Series) : Type 0 where
  pub is_open : IsOpenBy h marks s
  pub first : (t : Series) → IsOpenBy h marks t → is_lt (series_cmp t s) ≡ false

-- a series of a machine is open to workers
abbrev pub IsOpen : Work → Series → Type 0
IsOpen w s = IsOpenBy (history_of w) w.marks s

-- and the first one that is
abbrev pub IsFirstOpen : Work → Series → Type 0
IsFirstOpen w s = IsFirstBy (history_of w) w.marks s
