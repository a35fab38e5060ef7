-- How an outcome makes a step: an answer that adds nothing, or an entry.
use Rattle.std.{proofs.Common.{◌≡◌, ◌+◌, length, refl}, specs.Prelude.Some}
use Rattle.history_model.specs.{declared.entries.Author.Author, declared.entries.Entry.Entry, Entries.entries_of}
use Rattle.request_model.specs.declared.replies.{Answer.Answer, Reply.Reply}
use Rattle.track_model.specs.{Outcomes.{Outcome, tells}, Replies.reply_of, Tracks.{Track, IsStep, with_entry}}

module _ (old : Track) (author : Author) (o : Outcome) where
  pub told-step : (answer : Answer) (reply : Reply) → o ≡ tells answer → reply ≡ reply_of (entries_of old.history) (tells answer) → IsStep old author o old reply
  told-step answer reply is told = rw is record { track = refl; told = told }

  pub added-step : (answer : Answer) (e : Entry) (new : Track) (reply : Reply) → o ≡ record { answer = answer; adds = Some e }
      → new ≡ with_entry author old e → reply ≡ record { step = length (entries_of old.history) + 1; answer = answer } → IsStep old author o new reply
  added-step answer e new reply is new_is told = rw is record { track = new_is; told = told }
