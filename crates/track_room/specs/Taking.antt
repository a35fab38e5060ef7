-- What is taken of a machine that a pass has seen, and what becomes of what is handed in.
use Rattle.std.specs.{Prelude.{◌≡◌, ℕ, ◌+◌, List, take, drop, slice_get, IsSome, Option, Some, None}, List.AllZip}
use Rattle.segment_cost.specs.declared.done.Done.{Done}
use Rattle.history_model.specs.{declared.entries.Author.Author, declared.entries.Entry.Entry, Allowed.Legal, Entries.entries_of, Jobs.{jobs, job_in}}
use Rattle.touch_index.specs.declared.{key.SeriesKey.SeriesKey, mark.Claim.TheVariants.Free}
use Rattle.track_state.specs.{Settled.Settled, Snapshots.IsTakenAt, Published.Published, Work.{Work, ClaimBecomes, history_of, series_of}}
use Rattle.track_model.specs.Tracks.{Track}
use Rattle.track_state.specs.Questions as questions
use Rattle.track_state.specs.Taking as taking
use Rattle.track_state.specs.declared.{questions.Question.Question, taking.TakenSeries.TakenSeries}
use Rattle.track_room.specs.Sights.{Sight, Visits, track_of}

-- the history that the pass has seen
abbrev pub seen_of : Sight → List Entry
seen_of s = entries_of (track_of s).history

-- ---- series

-- the first stale series that nobody claims is taken of a state, whose history is legal; none exactly where there is none
abbrev pub TakesSeries : Option TakenSeries → Work → Work → Type 0
TakesSeries found w u = taking.Takes w found u × Legal (history_of w)

-- what a machine of a legal history has of a series
abbrev pub IsTaken : List Entry → TakenSeries → Type 0
IsTaken h x = (t : Track) × (entries_of t.history ≡ h) × IsTakenAt t (series_of x.key) x.snapshot
    × Legal h

-- a finished segmentation is handed in
abbrev pub Publishes : Author → Done → Published → Work → Work → Type 0
Publishes author done told w u = taking.Publishes w author done told u

-- the claim on a series ends, if there is one
pub record Releases (key : SeriesKey) (w u : Work) : Type 0 where
  pub track : u.track ≡ w.track
  pub claims : ClaimBecomes (series_of key) Free w u
  pub jobs : u.jobs ≡ w.jobs

-- ---- questions

-- the question of the open job of the smallest number that nobody claims is taken of a state, whose history is legal; none
-- exactly where there is none
abbrev pub TakesJob : Option Question → Work → Work → Type 0
TakesJob found w u = questions.TakesNext w found u × Legal (history_of w)

-- a place that an open job of a legal history asks, with the name of its commit
abbrev pub IsQuestion : List Entry → Question → Type 0
IsQuestion h q = questions.IsQuestion h q × Legal h

-- what is said of a question is handed in
abbrev pub Settles : Author → Question → Option ℕ → Settled → Work → Work → Type 0
Settles author q status told w u = questions.Settles w author q status told u

-- ---- by the places of a room's machines

-- this holds of what the pass has seen of the machine at a place
abbrev pub OfSeen : ℕ → List Sight → (List Entry → Type 0) → Type 0
OfSeen place pass Holds = (s : Sight) × (slice_get pass place ≡ Some s) × Holds (seen_of s)

-- the job of this number is there
abbrev pub HasJob : ℕ → List Entry → Type 0
HasJob job h = IsSome (job_in job (jobs h))

-- the machines before a place had nothing to take, from the one at the place this was taken, and the others weren't entered
pub record TakesAt (Nothing This : Work → Work → Type 0) (place : ℕ) (old new : List Sight)
    : Type 0 where
  pub nothing : AllZip (Visits Nothing) (take place old) (take place new)
  pub before : Sight
  pub there : slice_get old place ≡ Some before
  pub after : Sight
  pub here : slice_get new place ≡ Some after
  pub this : Visits This before after
  pub rest : drop (place + 1) new ≡ drop (place + 1) old

-- of the first machine that has something to take it is taken; nothing where none had, as it was entered
abbrev pub TakesFirst : {X : Type 0} → (Option X → Work → Work → Type 0) → Option (ℕ × X)
    → List Sight → List Sight → Type 0
TakesFirst Takes None old new = AllZip (Visits (Takes None)) old new
TakesFirst Takes (Some x) old new = TakesAt (Takes None) (Takes (Some x.1)) x.0 old new
