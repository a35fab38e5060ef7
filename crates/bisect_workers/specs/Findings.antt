-- What the asks of a runner found, and which of them a worker that bisects used.
use Rattle.std.specs.Prelude.{ℕ, Bool, List, filter, length, map}
use Rattle.track_outside.specs.Asked.{Ask}
use Rattle.worker_model.specs.Findings.{Finding, gives_up}
use Rattle.history_model.specs.declared.entries.Placed.{Placed}

-- an ask, and whether an entry has what it found
pub record Use : Type 0 where
  pub ask : Ask
  pub used : Bool

-- what an ask found
abbrev pub found_by : Use → Finding
found_by u = record { commit = u.ask.commit; status = u.ask.status }

-- what the asks found that were used, in order
abbrev pub found_of : List Use → List Finding
found_of uses = map found_by (filter (λ (u : Use). u.used) uses)

abbrev pub asks_of : List Use → List Ask
asks_of uses = map (λ (u : Use). u.ask) uses

-- how many of some entries give a question up
abbrev pub give_ups : List Placed → ℕ
give_ups entries = length (filter (λ (p : Placed). gives_up p.entry) entries)
