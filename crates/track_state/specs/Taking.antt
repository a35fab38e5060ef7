-- What is taken of a machine: a series that is stale, and what becomes of the claim when it is published.
use Rattle.std.specs.Prelude.{◌≡◌, ℕ, true, false, nat_lt, if◌then◌else◌, take, Option, Some, None}
use Rattle.segment_cost.specs.declared.done.Done.{Done}
use Rattle.history_model.specs.{declared.entries.Author.Author, Runs.Series}
use Rattle.publication_index.specs.Kept.{series_of as series_of_done}
use Rattle.touch_index.specs.declared.mark.Claim.{Claim, TheVariants.{Free, Taken, Refused}}
use Rattle.touch_model.specs.{Touches.last_touch, Stale.is_stale}
use Rattle.request_model.specs.declared.replies.Reply.{Reply}
use Rattle.track_model.specs.{Outcomes.Outcome, Publishing.SegmentComesFrom, Tracks.{IsFinishStep, with_taken}}
use Rattle.track_step.specs.{Publications.IsPublished, Snapshots.IsTakenAt, Snapshot.Snapshot, Published.Published}
use Rattle.track_step.specs.Published.TheVariants as published
use Rattle.track_state.specs.declared.taking.TakenSeries.{TakenSeries}
use Rattle.track_state.specs.Work.{Work, history_of, series_of, ClaimBecomes, ClaimsStay, IsSame, IsOpen, IsFirstOpen}

-- a segmentation of a series has begun: the table of its base is taken, if it has one, and all claims stay
pub record IsBegunOn (old : Work) (s : Series) (new : Work) : Type 0 where
  pub track : new.track ≡ with_taken s old.track
  pub claims : ClaimsStay old new
  pub jobs : new.jobs ≡ old.jobs

-- what a machine has of a series, where it is stale
abbrev pub TakesStale : Work → Series → Option Snapshot → Work → Type 0
TakesStale old s (Some x) new = (is_stale (history_of old) s ≡ true) × IsTakenAt old.track s x
    × IsBegunOn old s new
TakesStale old s None new = (is_stale (history_of old) s ≡ false) × IsSame old new

-- the first open series is claimed, and what the machine has of it is given
pub record TakesFirst (old : Work) (x : TakenSeries) (new : Work) : Type 0 where
  pub first : IsFirstOpen old (series_of x.key)
  pub snapshot : IsTakenAt old.track (series_of x.key) x.snapshot
  pub track : new.track ≡ with_taken (series_of x.key) old.track
  pub claims : ClaimBecomes (series_of x.key) Taken old new
  pub jobs : new.jobs ≡ old.jobs

-- there is none exactly where none is open
abbrev pub Takes : Work → Option TakenSeries → Work → Type 0
Takes old (Some x) new = TakesFirst old x new
Takes old None new = ((s : Series) → IsOpen old s → ⊥) × IsSame old new

-- the claim on a series after a segmentation of a version of it was handed in: it ends, unless a limit refused it and no
-- entry touched the series since
abbrev pub claim_after : Published → ℕ → ℕ → Claim
claim_after (published.Ok step) version touched = Free
claim_after (published.Stale later) version touched = Free
claim_after (published.Full limit) version touched = if nat_lt version touched then Free else Refused

-- what becomes of a finished segmentation, and of the claim on its series
pub record Publishes (old : Work) (author : Author) (done : Done) (told : Published) (new : Work) : Type 0 where
  pub track : IsPublished old.track author done told new.track
  pub claims : ClaimBecomes (series_of_done done)
      (claim_after told done.version (last_touch (history_of old) (series_of_done done))) old new
  pub jobs : new.jobs ≡ old.jobs

-- and what a request for it is replied: what the version that was segmented gives, from its base
abbrev pub Finishes : Work → Author → Done → Work → Reply → Type 0
Finishes old author done new reply =
    (o : Outcome) × SegmentComesFrom (take done.version (history_of old)) done.base (history_of old) (series_of_done done) o
    × IsFinishStep old.track author (series_of_done done) o new.track reply
