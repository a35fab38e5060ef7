-- No public contract cites this. A transcript that begins with a reply, and replies behind a walk.
use Rattle.std.specs.Prelude.{◌≡◌, ℕ, List, ◌++◌, drop, length, slice_get, Some}
use Rattle.history_model.specs.declared.entries.{Author.TheVariants.Kept, Entry.Entry, Placed.Placed}
use Rattle.request_model.specs.declared.{requests.Request.Request, replies.Reply.Reply}
use Rattle.reply_text.specs.Replies.{text_of}
use Rattle.track_model.specs.{Outcomes.Outcome, Tracks.{ComesTo, IsStep}}
use Rattle.journal_walk.specs.Walks.{Walked, added}

-- the reply's text, of this length, stands in front
pub record BeginsWith (transcript : List ℕ) (reply : Reply) (len : ℕ) : Type 0 where
  pub text : transcript ≡ text_of reply ++ drop len transcript
  pub whole : len ≡ length (text_of reply)

-- a request was answered behind a walk, and this is the text of the reply
pub record IsAnswered (old new : Walked) (q : Request) (text : List ℕ) : Type 0 where
  pub history : new.history ≡ old.history
  pub outcome : Outcome
  pub reply : Reply
  pub comes : ComesTo (added old) 0 q outcome
  pub step : IsStep old.track Kept outcome new.track reply
  pub is : text ≡ text_of reply

-- the entry at a place of a walk's state
pub record HasEntry (w : Walked) (place : ℕ) (e : Entry) : Type 0 where
  pub placed : Placed
  pub there : slice_get w.track.history place ≡ Some placed
  pub same : placed.entry ≡ e
