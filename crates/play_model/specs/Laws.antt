-- What holds of all replies beside others.
use Rattle.std.specs.Prelude.{ℕ, ◌≤◌, ◌<◌, List, ◌++◌, length}
use Rattle.history_model.specs.declared.entries.{Author.Author, Placed.Placed}
use Rattle.request_model.specs.declared.{requests.Request.Request, replies.Reply.Reply}
use Rattle.play_model.specs.Replies.{Adds, IsReplyOn}

-- a reply looks at the first entries alone: it holds on every longer journal
abbrev pub RepliesStay : Type 0
RepliesStay =
    (author : Author) (j more : List Placed) (known : ℕ) (q : Request) (reply : Reply)
    → IsReplyOn author j known q reply → IsReplyOn author (j ++ more) known q reply

-- and where fewer of its entries were known
abbrev pub RepliesHoldEarlier : Type 0
RepliesHoldEarlier =
    (author : Author) (j : List Placed) (known fewer : ℕ) (q : Request) (reply : Reply)
    → fewer ≤ known → IsReplyOn author j known q reply → IsReplyOn author j fewer q reply

-- so does one that adds an entry
abbrev pub AddsStay : Type 0
AddsStay =
    (author : Author) (j more : List Placed) (known : ℕ) (q : Request) (reply : Reply)
    → Adds author j known q reply → Adds author (j ++ more) known q reply

abbrev pub AddsHoldEarlier : Type 0
AddsHoldEarlier =
    (author : Author) (j : List Placed) (known fewer : ℕ) (q : Request) (reply : Reply)
    → fewer ≤ known → Adds author j known q reply → Adds author j fewer q reply

-- it names so many entries: those that were known at least, and of the journal at most
pub record NamesEntries (j : List Placed) (known : ℕ) (reply : Reply) : Type 0 where
  pub since : known ≤ reply.step
  pub within : reply.step ≤ length j

abbrev pub RepliesNameEntries : Type 0
RepliesNameEntries =
    (author : Author) (j : List Placed) (known : ℕ) (q : Request) (reply : Reply)
    → IsReplyOn author j known q reply → NamesEntries j known reply

-- a reply that adds an entry names more than were known: no entry serves two requests
abbrev pub AddedIsNew : Type 0
AddedIsNew =
    (author : Author) (j : List Placed) (known : ℕ) (q : Request) (reply : Reply)
    → Adds author j known q reply → known < reply.step
