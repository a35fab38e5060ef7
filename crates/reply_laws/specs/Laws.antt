-- What holds of all replies beside others.
use Rattle.std.specs.Prelude.{◌≡◌, ℕ, false, is_none, List}
use Rattle.history_model.specs.declared.entries.{Author.Author, Entry.Entry, Placed.Placed}
use Rattle.request_model.specs.declared.{requests.Request.Request, replies.Reply.Reply}
use Rattle.reply_text.specs.Replies.{text_of}
use Rattle.track_model.specs.{Counts.is_segment, Outcomes.Outcome, Tracks.ComesTo}
use Rattle.play_model.specs.Replies.{ComesToBeside, Adds, Tells, stands_alone}
use Rattle.reply_laws.specs.Kinds.{adds_none, tells_none, tells_by_letter, Names}

-- what a request comes to adds an entry exactly where its form and its answer say so
abbrev pub KindsAreTold : Type 0
KindsAreTold = (version : List Entry) (base : ℕ) (h : List Entry) (q : Request) (o : Outcome)
    → ComesToBeside version base h q o → is_none o.adds ≡ adds_none q o.answer

-- the text of a reply names its step, and begins with a byte that tells its kind
pub record IsNamed (reply : Reply) : Type 0 where
  pub letter : ℕ
  pub names : Names (text_of reply) reply.step letter
  pub kind : tells_by_letter letter ≡ tells_none reply.answer

abbrev pub RepliesAreNamed : Type 0
RepliesAreNamed = (reply : Reply) → IsNamed reply

-- a request that segments nothing comes to one outcome, whatever version and base
abbrev pub OneBeside : Type 0
OneBeside = (v w : List Entry) (b c : ℕ) (h : List Entry) (q : Request) (one other : Outcome) → is_segment q ≡ false
    → ComesToBeside v b h q one → ComesToBeside w c h q other → one ≡ other

-- what it comes to alone it comes to beside others, but that a machine isn't declared
abbrev pub PlainBeside : Type 0
PlainBeside = (v : List Entry) (b : ℕ) (h : List Entry) (q : Request) (o : Outcome) → is_segment q ≡ false
    → stands_alone q ≡ false → ComesTo h 0 q o → ComesToBeside v b h q o

-- one reply to a request at most adds the entry of a step
abbrev pub OneAdds : Type 0
OneAdds = (author : Author) (j : List Placed) (known : ℕ) (q : Request) (one other : Reply)
    → Adds author j known q one → Adds author j known q other → one.step ≡ other.step → one ≡ other

-- and one at most that adds nothing names so many entries, but of a segmentation
abbrev pub OneTells : Type 0
OneTells = (j : List Placed) (known : ℕ) (q : Request) (one other : Reply) → is_segment q ≡ false
    → Tells j known q one → Tells j known q other → one.step ≡ other.step → one ≡ other
