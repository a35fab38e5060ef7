-- No public contract cites this. What is done to a machine between entering its lock and leaving it.
use Rattle.std.specs.FinSet as set
use Rattle.std.specs.Prelude.{◌≡◌, ◌⊎◌, ◌++◌, ◌∷◌, [], IfOk, OnErr, Result}
use Rattle.history_model.specs.{declared.entries.Author.Author, declared.entries.Placed.Placed, Allowed.Legal, Runs.Series}
use Rattle.request_model.specs.declared.{requests.Request.Request, replies.Reply.Reply}
use Rattle.segment_cost.specs.declared.done.Done.{Done}
use Rattle.track_model.specs.{Outcomes.Outcome, Tracks.{ComesTo, IsStep, Track}}
use Rattle.publication_index.specs.Standing.{table_for}
use Rattle.track_state.specs.{Beside.IsBegun, Begun.Begun, Made.IsMadeFrom, Redone.Redone, Work.{Work, bare, history_of}}
use Rattle.track_state.specs.Taking as taking
use Rattle.track_room.specs.Sights.{Sight, SeesMore, track_of}

-- a request is answered
abbrev pub Answers : Author → Request → Reply → Work → Work → Type 0
Answers author q reply w u = (o : Outcome) × ComesTo (history_of w) 0 q o × IsStep w.track author o u.track reply

-- a segmentation is begun
abbrev pub Begins : Series → Begun → Work → Work → Type 0
Begins s begun w u = IsBegun w.track s begun × taking.IsBegunOn w s u × Legal (history_of w)

-- a segmentation is finished
abbrev pub Finishes : Author → Done → Reply → Work → Work → Type 0
Finishes author done reply w u = taking.Finishes w author done u reply

-- a segmentation is made of the history, and has its table
abbrev pub IsMade : Redone → Work → Type 0
IsMade redone w = IsMadeFrom (history_of w) redone.done × (redone.table ≡ table_for redone.done)

-- nothing is seen
abbrev pub Stays : Work → Work → Type 0
Stays w u = bare u.track ≡ bare w.track

-- where there is memory this is done, and else nothing is seen
abbrev pub DoesOrStays : {A E : Type 0} → (A → Work → Work → Type 0) → Result A E → Work → Work → Type 0
DoesOrStays Does told w u = IfOk told (λ x. Does x w u) × OnErr told (Stays w u)

-- ---- what may be done under a lock

-- one entry more, whatever tables are home
abbrev pub one_more : Track → Placed → Track
one_more t e = record { machine = t.machine; kept = t.kept; history = t.history ++ e ∷ []; home = set.empty }

-- a machine grows by one entry at most
abbrev pub Grows : Track → Track → Type 0
Grows t u = (bare u ≡ bare t) ⊎ ((e : Placed) × (bare u ≡ one_more t e))

-- a pass finds this state when it enters: what it has seen, and then entries of others
pub record IsFound (pass : Sight) (w : Work) : Type 0 where
  pub found : Sight
  pub sees : SeesMore pass found
  pub was : bare w.track ≡ track_of found
