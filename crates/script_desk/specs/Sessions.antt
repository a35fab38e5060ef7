-- What one request of a script makes of the machines of a session: its reply, and their histories
-- after it.
use Rattle.std.specs.{Prelude.{◌≡◌, ℕ, Bool, true, false, nat_le, if◌then◌else◌, List, [], ◌∷◌, ◌++◌, length, find, Option, Some, None}, List.AllZip}
use Rattle.metric_table.specs.{Limits.most, declared.limits.Limit.TheVariants.Machines}
use Rattle.request_model.specs.{declared.requests.Request.Request, declared.replies.Reply.Reply, Requests.machine_of}
use Rattle.request_model.specs.declared.requests.Request.TheVariants as request
use Rattle.request_model.specs.declared.replies.Answer.TheVariants as answer
use Rattle.request_model.specs.declared.replies.Refusal.TheVariants as refusal
use Rattle.history_model.specs.{declared.entries.Author.Author, Allowed.Legal, Entries.entries_of}
use Rattle.track_model.specs.{Outcomes.{Outcome, tells, refuses}, Replies.{reply_of, apart}}
use Rattle.track_model.specs.Tracks.{Track, ComesTo, IsSameButTables, base_asked, with_answered, new_track as empty_track}
pub use Rattle.keep_rows.specs.Machines.{is_track, changed}

-- a reply, and the tracks after it, in order of declaration
pub record Answered : Type 0 where
  pub reply : Reply
  pub tracks : List Track

-- an answer that names no history
abbrev pub untouched : List Track → Outcome → Answered
untouched tracks o = record { reply = apart o; tracks = tracks }

-- ---- a machine more, where there is room
abbrev pub new_track : List ℕ → Track
new_track machine = empty_track machine false

abbrev pub added : List Track → List ℕ → Answered
added tracks machine =
    if nat_le (most Machines) (length tracks)
    then untouched tracks (refuses (refusal.Full Machines))
    else record {
      reply = apart (tells (answer.Machine machine));
      tracks = tracks ++ new_track machine ∷ [];
    }

-- ---- a request about a machine that is not declared: it declares the machine, or is refused
abbrev pub unknown : List Track → Request → Answered
unknown tracks (request.Machine machine) = added tracks machine
unknown tracks q = untouched tracks (refuses refusal.UnknownMachine)

-- ---- a request about a machine that is declared, which its history answers
abbrev pub stepped : Author → List Track → Request → Track → Outcome → Answered
stepped author tracks q t o =
    record {
      reply = reply_of (entries_of t.history) o;
      tracks = changed (machine_of q) (λ u. with_answered author q u o) tracks;
    }

-- ---- any request
abbrev pub AnswersAbout : Option Track → Author → List Track → Request → Answered → Type 0
AnswersAbout None author tracks q answered = answered ≡ unknown tracks q
AnswersAbout (Some t) author tracks q answered =
    (o : Outcome) × ComesTo (entries_of t.history) (base_asked t q) q o
    × (answered ≡ stepped author tracks q t o)

abbrev pub Answers : Author → List Track → Request → Answered → Type 0
Answers author tracks q answered =
    AnswersAbout (find (is_track (machine_of q)) tracks) author tracks q answered

-- a machine's history is legal
abbrev pub HasLegalHistory : Track → Type 0
HasLegalHistory t = Legal (entries_of t.history)

-- ---- a session: whose script it is, and the tracks
pub record State : Type 0 where
  pub author : Author
  pub tracks : List Track

-- a request is answered by this reply, under the session's author
abbrev pub RepliesTo : State → Request → Reply → State → Type 0
RepliesTo before q reply after =
    (after.author ≡ before.author)
    × Answers before.author before.tracks q (record { reply = reply; tracks = after.tracks })

-- where there is no memory for an answer all stands as it was, but for a table that went
pub record Keeps (before after : State) : Type 0 where
  pub author : after.author ≡ before.author
  pub tracks : AllZip IsSameButTables before.tracks after.tracks

-- so it is by a session that tells each reply
abbrev pub AnswersFor : State → Request → Option Reply → State → Type 0
AnswersFor before q told after =
    (reply : Reply) × RepliesTo before q reply after × (told ≡ Some reply)

-- ---- a session that tells the replies about segmentations alone

-- the request is for the segmentation of a series, or for its changes
abbrev pub is_of_segmentations : Request → Bool
is_of_segmentations (request.Segment machine test metric) = true
is_of_segmentations (request.Changes machine test metric) = true
is_of_segmentations q = false

-- a request is answered as ever, and the reply is told exactly where the request is such a one
abbrev pub AnswersSome : State → Request → Option Reply → State → Type 0
AnswersSome before q told after =
    (reply : Reply) × RepliesTo before q reply after
    × (told ≡ (if is_of_segmentations q then Some reply else None))
