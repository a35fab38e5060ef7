-- What a machine's history without its publications answers: as the history does, but for the numbers of steps.
use Rattle.std.specs.Prelude.{◌≡◌, ◌≢◌, ℕ, ℤ, Bool, true, false, List, ◌++◌, length, take, option_to_list, Option, Some}
use Rattle.metric_table.specs.declared.limits.Limit.TheVariants.{Steps}
use Rattle.history_model.specs.{declared.entries.Entry.Entry, Entries.entries_of}
use Rattle.history_model.specs.declared.entries.Entry.TheVariants as entry
use Rattle.request_model.specs.declared.{replies.Answer.Answer, replies.Refusal.Refusal, replies.Reply.Reply, requests.Request.Request}
use Rattle.request_model.specs.declared.replies.Answer.TheVariants as answer
use Rattle.request_model.specs.declared.replies.Refusal.TheVariants as refusal
use Rattle.request_model.specs.declared.requests.Request.TheVariants as request
use Rattle.track_model.specs.{Outcomes.Outcome, Replies.reply_of, Tracks.{ComesTo, Track}}
use Rattle.keep_rows.specs.Kept.{kept_of, kept_entries}

-- they are those of the machine as a store keeps it
abbrev pub StoreKeepsEntries : Type 0
StoreKeepsEntries = (t : Track) → entries_of (kept_of t).history ≡ kept_entries (entries_of t.history)

-- how many of the first entries, up to this step, are kept; an entry of this step that is kept has that step among the kept ones
abbrev pub kept_step : List Entry → ℕ → ℕ
kept_step h step = length (kept_entries (take step h))

-- a refusal as the kept history tells it, where it tells a step
abbrev pub kept_refusal : List Entry → Refusal → Refusal
kept_refusal h (refusal.IdentityClash step) = refusal.IdentityClash (kept_step h step)
kept_refusal h (refusal.AlreadyRetracted step) = refusal.AlreadyRetracted (kept_step h step)
kept_refusal h told = told

-- an answer, each step in it as the kept history numbers it; a version is a step too, that of the last entry that it has
abbrev pub kept_answer : List Entry → Answer → Answer
kept_answer h (answer.Duplicate step) = answer.Duplicate (kept_step h step)
kept_answer h (answer.Segmented version base points cuts redone total) =
    answer.Segmented (kept_step h version) (kept_step h base) points cuts redone total
kept_answer h (answer.Changes version metric items) = answer.Changes (kept_step h version) metric items
kept_answer h (answer.Verified version cert) = answer.Verified (kept_step h version) cert
kept_answer h (answer.Refused told) = answer.Refused (kept_refusal h told)
kept_answer h told = told

-- an outcome with its answer as the kept history tells it: the entry that it adds is the same
abbrev pub kept_outcome : List Entry → Outcome → Outcome
kept_outcome h o = record { answer = kept_answer h o.answer; adds = o.adds }

-- a reply, its step and its answer as the kept history numbers and tells them
abbrev pub kept_reply : List Entry → Reply → Reply
kept_reply h reply = record { step = kept_step h reply.step; answer = kept_answer h reply.answer }

-- the history behind a request that came to this outcome
abbrev pub behind : List Entry → Outcome → List Entry
behind h o = h ++ option_to_list o.adds

-- the request neither publishes nor looks at what was published
abbrev pub IsOfKept : Request → Type 0
IsOfKept (request.Segment machine test metric) = ⊥
IsOfKept (request.Changes machine test metric) = ⊥
IsOfKept (request.Verify machine test metric) = ⊥
IsOfKept (request.Regress machine test metric change) = ⊥
IsOfKept (request.Report machine json) = ⊥
IsOfKept q = Unit {0}

-- the answer isn't that there are as many entries as there may be: without its publications a history may have room
abbrev pub HasRoom : Outcome → Type 0
HasRoom o = o.answer ≢ answer.Refused (refusal.Full Steps)

-- a request comes on the kept history to what it comes to on the history, but for the numbers of steps; such a request
-- segments nothing, so it looks at no base
abbrev pub AnswersAlike : Type 0
AnswersAlike =
    (h : List Entry) (base kept_base : ℕ) (q : Request) (o : Outcome) → IsOfKept q → ComesTo h base q o → HasRoom o
    → ComesTo (kept_entries h) kept_base q (kept_outcome h o)

-- so is its reply, which counts the steps of the history behind it
abbrev pub RepliesAlike : Type 0
RepliesAlike =
    (h : List Entry) (base kept_base : ℕ) (q : Request) (o kept : Outcome) → IsOfKept q
    → ComesTo h base q o → ComesTo (kept_entries h) kept_base q kept → HasRoom o
    → reply_of (kept_entries h) kept ≡ kept_reply (behind h o) (reply_of h o)

-- and the kept history goes on as the history does
abbrev pub HistoriesAlike : Type 0
HistoriesAlike =
    (h : List Entry) (base kept_base : ℕ) (q : Request) (o kept : Outcome) → IsOfKept q
    → ComesTo h base q o → ComesTo (kept_entries h) kept_base q kept → HasRoom o
    → behind (kept_entries h) kept ≡ kept_entries (behind h o)

-- ---- segmentations

abbrev pub is_refused : Answer → Bool
is_refused (answer.Refused told) = true
is_refused told = false

-- the answer tells of a segmentation of so many positions, with so many cuts and this total
abbrev pub TellsCuts : ℕ → ℕ → ℤ → Answer → Type 0
TellsCuts many few sum (answer.Segmented version base points cuts redone total) = (points ≡ many) × (cuts ≡ few) × (total ≡ sum)
TellsCuts many few sum told = ⊥

-- both answers tell of one
abbrev pub TellSameCuts : Answer → Answer → Type 0
TellSameCuts (answer.Segmented version base points cuts redone total) other = TellsCuts points cuts total other
TellSameCuts told other = ⊥

-- both publish it: the same list of cuts and the same total
abbrev pub PublishSameCuts : Option Entry → Option Entry → Type 0
PublishSameCuts (Some (entry.Publish one)) (Some (entry.Publish other)) = (one.cuts ≡ other.cuts) × (one.total ≡ other.total)
PublishSameCuts one other = ⊥

-- where a segmentation is refused neither on the history nor on the kept one, both find the same, from whatever bases
abbrev pub SegmentsAlike : Type 0
SegmentsAlike =
    (h : List Entry) (base kept_base : ℕ) (machine test metric : List ℕ) (o kept : Outcome)
    → ComesTo h base (request.Segment machine test metric) o
    → ComesTo (kept_entries h) kept_base (request.Segment machine test metric) kept
    → is_refused o.answer ≡ false → is_refused kept.answer ≡ false
    → TellSameCuts o.answer kept.answer × PublishSameCuts o.adds kept.adds
