-- No public contract cites this. A publication, added behind a history.
use Rattle.std.specs.Prelude.{◌≡◌, [], ◌∷◌, ◌++◌, take, Some}
use Rattle.history_model.specs.{declared.entries.Entry.TheVariants.Publish, declared.publication.Publication.Publication, Entries.entries_of}
use Rattle.history_model.specs.Publications.{published}
use Rattle.request_model.specs.declared.replies.Reply.{Reply}
use Rattle.track_model.specs.{Outcomes.Outcome, Publishing.SegmentComesFrom, Replies.reply_of, Tracks.Track}

-- it was added, and the reply is the one to the request for it
pub record Publishes (old : Track) (p : Publication) (new : Track) (reply : Reply) : Type 0 where
  pub machine : new.machine ≡ old.machine
  pub grown : entries_of new.history ≡ entries_of old.history ++ Publish p ∷ []
  pub outcome : Outcome
  pub comes : SegmentComesFrom (take p.version (entries_of old.history)) p.base (entries_of old.history) (published p) outcome
  pub adds : outcome.adds ≡ Some (Publish p)
  pub told : reply ≡ reply_of (entries_of old.history) outcome
