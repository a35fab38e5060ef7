-- No public contract cites this. What a transcript has next, by the journal of a machine.
use Rattle.std.specs.Prelude.{◌≡◌, ◌≢◌, ◌⊎◌, ℕ, ◌-◌, Bool, true, List, ◌++◌, set, IfNone, IfOk, IfSome, Option, Result}
use Rattle.history_model.specs.declared.entries.{Author.Author, Placed.Placed}
use Rattle.request_model.specs.declared.{requests.Request.Request, replies.Reply.Reply}
use Rattle.reply_text.specs.Replies.{text_of}
use Rattle.play_model.specs.Replies.{Adds, IsReplyOn}
use Rattle.play_audit.specs.Texts.{BeginsWith}

-- the replies that are meant, of which one of this step stands in front of the transcript
pub record IsNext (Fits : Reply → Type 0) (transcript : List ℕ) (step len : ℕ) : Type 0 where
  pub reply : Reply
  pub fits : Fits reply
  pub its_step : reply.step ≡ step
  pub begins : BeginsWith transcript reply len
  pub only : (other : Reply) (rest : List ℕ) → Fits other → transcript ≡ text_of other ++ rest
      → other ≡ reply

-- none of that step does
abbrev pub HasNone : (Fits : Reply → Type 0) → List ℕ → (step : ℕ) → Type 0
HasNone Fits transcript step =
    (reply : Reply) (rest : List ℕ) → Fits reply → reply.step ≡ step
    → transcript ≢ text_of reply ++ rest

-- how long the one that does is; none exactly where none does
pub record IsCompared {E : Type 0} (Fits : Reply → Type 0) (transcript : List ℕ) (step : ℕ)
    (result : Result (Option ℕ) E) : Type 0 where
  pub some : IfOk result (λ o. IfSome o (IsNext Fits transcript step))
  pub none : IfOk result (λ o. IfNone o (HasNone Fits transcript step))

-- an entry that the reply added is marked, and no other
abbrev pub IsMarked : Author → List Placed → ℕ → Request → Reply → List Bool → List Bool → Type 0
IsMarked author journal known q reply before after =
    (Adds author journal known q reply × (after ≡ set before (reply.step - 1) true))
    ⊎ ((¬ Adds author journal known q reply) × (after ≡ before))

-- a reply that the journal gives to the request stands in front of the transcript, and this is marked
pub record IsHeardNext (author : Author) (journal : List Placed) (known now : ℕ) (q : Request)
    (transcript : List ℕ) (len : ℕ) (before after : List Bool) : Type 0 where
  pub next : IsNext (IsReplyOn author journal known q) transcript now len
  pub marked : IsMarked author journal known q next.reply before after

-- no such reply does
abbrev pub IsUnheard : Author → List Placed → ℕ → Request → List ℕ → Type 0
IsUnheard author journal known q transcript =
    (reply : Reply) (rest : List ℕ) → IsReplyOn author journal known q reply
    → transcript ≢ text_of reply ++ rest
