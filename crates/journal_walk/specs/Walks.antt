-- A walk along a history: the entries that are to be added, and the state that has the first of them.
use Rattle.std.specs.Prelude.{◌≡◌, ◌⊎◌, ℕ, ◌≤◌, true, false, List, [], ◌∷◌, ◌++◌, length, take, slice_get, Option, Some, None}
use Rattle.segment_cost.specs.{Certificate.StandsFor, declared.cert.Cert.Cert}
use Rattle.history_model.specs.declared.{entries.Entry.Entry, entries.Entry.TheVariants.Publish, entries.Placed.Placed, publication.Publication.Publication}
use Rattle.history_model.specs.{Allowed.Allowed, Entries.entries_of, Penalties.{penalty_of, length_of}, Positions.positions, Publications.published}
use Rattle.history_model.specs.Runs.{Series, is_known}
use Rattle.journal_lines.specs.Authors.{IsPublication}
use Rattle.request_model.specs.declared.replies.Reply.{Reply}
use Rattle.track_model.specs.{Outcomes.Outcome, Publishing.SegmentComesFrom, Replies.reply_of, Tracks.Track}

pub record Walked : Type 0 where
  pub history : List Placed
  pub track : Track

-- the entries that were added
abbrev pub added : Walked → List Entry
added w = entries_of w.track.history

-- the entry that is to come next, if there is one
abbrev pub coming : Walked → Option Placed
coming w = slice_get w.history (length w.track.history)

-- they are the first of the history
pub record IsAlong (w : Walked) : Type 0 where
  pub within : length w.track.history ≤ length w.history
  pub first : added w ≡ entries_of (take (length w.track.history) w.history)

-- the next entry was added, of the same history
pub record GoesOn (old new : Walked) : Type 0 where
  pub same : new.history ≡ old.history
  pub machine : new.track.machine ≡ old.track.machine
  pub entry : Placed
  pub next : coming old ≡ Some entry
  pub grown : added new ≡ added old ++ entry.entry ∷ []

-- no entry is to come, or it isn't allowed behind those that were added
abbrev pub IsStuck : Walked → Type 0
IsStuck w = (coming w ≡ None) ⊎ ((p : Placed) × (coming w ≡ Some p) × ¬ Allowed (added w) p.entry)

-- the next entry was added, which is a publication, and the reply is the one to the request for it
pub record IsPublishedNext (old new : Walked) (reply : Reply) : Type 0 where
  pub goes : GoesOn old new
  pub publication : Publication
  pub is : goes.entry.entry ≡ Publish publication
  pub outcome : Outcome
  pub comes : SegmentComesFrom (take publication.version (added old)) publication.base (added old) (published publication) outcome
  pub adds : outcome.adds ≡ Some (Publish publication)
  pub told : reply ≡ reply_of (added old) outcome

-- no entry is to come, or it is no publication that is allowed behind those that were added
abbrev pub PublishesNothing : Walked → Type 0
PublishesNothing w =
    (coming w ≡ None)
    ⊎ ((p : Placed) × (coming w ≡ Some p) × ((¬ IsPublication p.entry) ⊎ (¬ Allowed (added w) p.entry)))

-- so many cuts has the best segmentation of a series; 0 where it isn't known
abbrev pub AreCutsNow : List Entry → Series → ℕ → Type 0
AreCutsNow h s count =
    ((is_known s h ≡ false) × (count ≡ 0))
    ⊎ ((is_known s h ≡ true) × ((cert : Cert) × StandsFor (positions h s) (penalty_of s.metric h) (length_of s.metric h) cert × (count ≡ length cert.cuts)))
