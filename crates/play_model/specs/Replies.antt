-- A reply beside others: what one request of a script may be answered where others add entries
-- meanwhile, by the journals of the machines. A journal is a machine's whole history; a script knows
-- so many of its first entries before the request.
use Rattle.std.specs.Prelude.{◌≡◌, ℕ, ◌≤◌, ◌⊎◌, Bool, true, false, not, ◌&&◌, if◌then◌else◌, List, length, take, slice_get, bytes_eq, Some, None}
use Rattle.std.specs.List.{list_any}
use Rattle.history_model.specs.{declared.entries.Author.Author, declared.entries.Entry.Entry, declared.entries.Placed.Placed, Entries.entries_of}
use Rattle.request_model.specs.{declared.requests.Request.Request, declared.replies.Refusal.Refusal, declared.replies.Reply.Reply, Requests.machine_of}
use Rattle.request_model.specs.declared.requests.Request.TheVariants as request
use Rattle.request_model.specs.declared.replies.Refusal.TheVariants as refusal
use Rattle.track_model.specs.{Outcomes.{Outcome, refuses}, Publishing.SegmentComesFrom, Replies.{reply_of, apart}, Tracks.ComesTo}

-- the first entries of a journal, so many, without their authors
abbrev pub first_of : ℕ → List Placed → List Entry
first_of count j = entries_of (take count j)

-- what a request comes to on a history beside others: what it comes to alone, but that a machine
-- isn't declared, and that of a series a version is segmented, from a base that it allows
abbrev pub ComesToBeside : List Entry → ℕ → List Entry → Request → Outcome → Type 0
ComesToBeside version base h (request.Machine machine) o = o ≡ refuses refusal.OnlyAlone
ComesToBeside version base h (request.Segment machine test metric) o =
    SegmentComesFrom version base h (record { test = test; metric = metric }) o
ComesToBeside version base h q o = ComesTo h 0 q o

-- the request comes to this on so many first entries of the journal: no fewer than were known, as
-- many as there are at most; and the version that is segmented lies between
pub record ComesBehind (j : List Placed) (known count : ℕ) (q : Request) (o : Outcome) : Type 0 where
  pub since : known ≤ count
  pub within : count ≤ length j
  pub version : ℕ
  pub made_since : known ≤ version
  pub made_before : version ≤ count
  pub base : ℕ
  pub comes : ComesToBeside (first_of version j) base (first_of count j) q o

-- the request adds the journal's next entry, by this author, and the reply tells it
pub record Adds (author : Author) (j : List Placed) (known : ℕ) (q : Request) (reply : Reply)
    : Type 0 where
  pub count : ℕ
  pub outcome : Outcome
  pub comes : ComesBehind j known count q outcome
  pub entry : Entry
  pub adds : outcome.adds ≡ Some entry
  pub stands : slice_get j count ≡ Some (record { author = author; entry = entry })
  pub told : reply ≡ reply_of (first_of count j) outcome

-- the request adds nothing, and the reply tells what it comes to
pub record Tells (j : List Placed) (known : ℕ) (q : Request) (reply : Reply) : Type 0 where
  pub count : ℕ
  pub outcome : Outcome
  pub comes : ComesBehind j known count q outcome
  pub adds : outcome.adds ≡ None
  pub told : reply ≡ reply_of (first_of count j) outcome

-- a reply on a journal of which so many entries were known
abbrev pub IsReplyOn : Author → List Placed → ℕ → Request → Reply → Type 0
IsReplyOn author j known q reply = Adds author j known q reply ⊎ Tells j known q reply

-- the form of request that is for scripts alone
abbrev pub stands_alone : Request → Bool
stands_alone (request.Machine machine) = true
stands_alone q = false

-- the request names the history of one of these machines
abbrev pub is_of_history : List (List ℕ) → Request → Bool
is_of_history machines q =
    not (stands_alone q) && list_any (λ name. bytes_eq name (machine_of q)) machines

-- why a request is refused that names none
abbrev pub why_apart : Request → Refusal
why_apart q = if stands_alone q then refusal.OnlyAlone else refusal.UnknownMachine

-- a reply by the journals, of which so many entries each were known, where the request names one of
-- them, and where it names none
abbrev pub IsReplyWhere : (named : Bool) → Author → (List ℕ → List Placed) → (List ℕ → ℕ) → Request
    → Reply → Type 0
IsReplyWhere true author journal known q reply =
    IsReplyOn author (journal (machine_of q)) (known (machine_of q)) q reply
IsReplyWhere false author journal known q reply = reply ≡ apart (refuses (why_apart q))

-- a reply by the journals of the declared machines
abbrev pub IsReply : Author → List (List ℕ) → (List ℕ → List Placed) → (List ℕ → ℕ) → Request
    → Reply → Type 0
IsReply author machines journal known q reply =
    IsReplyWhere (is_of_history machines q) author journal known q reply
