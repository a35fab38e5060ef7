-- A segmentation that was begun, and what is replied once it was handed in.
use Rattle.std.specs.Prelude.{◌≡◌, false, List}
use Rattle.history_model.specs.{declared.entries.Entry.Entry, Entries.entries_of, Runs.{Series, is_known}}
use Rattle.request_model.specs.declared.replies.{Answer.Answer, Refusal.TheVariants.{Full, Stale, UnknownSeries}, Reply.Reply}
use Rattle.track_model.specs.{Outcomes.refuses, Replies.reply_of, Tracks.Track}
use Rattle.track_series.specs.declared.{beside.Begun.Begun, beside.Begun.TheVariants.{Known, Unknown}, publishing.Published.Published}
use Rattle.track_series.specs.declared.publishing.Published.TheVariants as published
use Rattle.track_series.specs.Snapshots.{IsTakenAt}

-- what a machine has of the series, or the reply that it isn't known
abbrev pub IsBegun : Track → Series → Begun → Type 0
IsBegun t s (Known x) = IsTakenAt t s x
IsBegun t s (Unknown reply) =
    (is_known s (entries_of t.history) ≡ false)
    × (reply ≡ reply_of (entries_of t.history) (refuses UnknownSeries))

-- the reply to what became of it: the answer, or why it wasn't published
abbrev pub reply_told : List Entry → Published → Answer → Reply
reply_told h (published.Ok step) a = record { step = step; answer = a }
reply_told h (published.Stale version) a = reply_of h (refuses (Stale version))
reply_told h (published.Full limit) a = reply_of h (refuses (Full limit))
