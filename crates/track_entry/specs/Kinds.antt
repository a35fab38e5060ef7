-- No public contract cites this. The kinds of entries, and their words.
use Rattle.std.specs.Prelude.{ℕ, List, codes, if◌then◌else◌, bytes_eq, Option, Some, None}
use Rattle.history_model.specs.declared.entries.Entry.{Entry}
use Rattle.history_model.specs.declared.entries.Entry.TheVariants as entry
use Rattle.history_model.specs.declared.events.RegressionEvent.TheVariants as regression
use Rattle.history_model.specs.declared.events.JobEvent.TheVariants as job
use Rattle.track_entry.specs.declared.kind.Kind.{Kind, TheVariants.{Commit, Accept, Retract, Tune, Publish, Raise, Move, Begin, Answer, GiveUp}}

-- the kind of which this is the word
abbrev pub kind_in : List ℕ → Option Kind
kind_in word =
    if bytes_eq word (codes "commit") then Some Commit
    else (if bytes_eq word (codes "accept") then Some Accept
    else (if bytes_eq word (codes "retract") then Some Retract
    else (if bytes_eq word (codes "tune") then Some Tune
    else (if bytes_eq word (codes "publish") then Some Publish
    else (if bytes_eq word (codes "raise") then Some Raise
    else (if bytes_eq word (codes "move") then Some Move
    else (if bytes_eq word (codes "begin") then Some Begin
    else (if bytes_eq word (codes "answer") then Some Answer
    else (if bytes_eq word (codes "giveup") then Some GiveUp
    else None)))))))))

-- the kind of an entry
abbrev pub kind_of : Entry → Kind
kind_of (entry.Commit number name) = Commit
kind_of (entry.Accept run) = Accept
kind_of (entry.Retract run) = Retract
kind_of (entry.Tune metric penalty len) = Tune
kind_of (entry.Publish p) = Publish
kind_of (entry.Regression (regression.Raise raised)) = Raise
kind_of (entry.Regression (regression.Move number state)) = Move
kind_of (entry.Job (job.Begin lo hi)) = Begin
kind_of (entry.Job (job.Answer number place status)) = Answer
kind_of (entry.Job (job.GiveUp number place)) = GiveUp
