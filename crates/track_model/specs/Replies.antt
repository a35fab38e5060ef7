-- The reply to a request about a machine, on the machine's history, and the entry that it adds.
use Rattle.std.specs.Prelude.{ℕ, ◌+◌, List, length, Option, Some, None}
use Rattle.history_model.specs.declared.entries.Entry.{Entry}
use Rattle.request_model.specs.declared.replies.Reply.{Reply}
use Rattle.track_model.specs.Outcomes.{Outcome}

-- an outcome on a history as a reply, which counts the entry that is added
abbrev pub reply_of : List Entry → Outcome → Reply
reply_of h o = record { step = steps_after o.adds; answer = o.answer }
  where
    steps_after : Option Entry → ℕ
    steps_after None = length h
    steps_after (Some e) = length h + 1

-- a reply that names no history
abbrev pub apart : Outcome → Reply
apart o = record { step = 0; answer = o.answer }
