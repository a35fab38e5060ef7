-- Requests, answered by steps that are counted.
use Rattle.std.specs.Prelude.{◌≡◌, ℕ, Option, None, Some}
use Rattle.request_model.specs.declared.{requests.Request.Request, replies.Reply.Reply}
use Rattle.track_model.specs.Counts.{Counts}

-- the steps rose by as many as a request took, by what is told of it; where nothing is told, it took
-- none
abbrev pub CountsTold : Request → Option Reply → ℕ → ℕ → Type 0
CountsTold q None before after = after ≡ before
CountsTold q (Some reply) before after = Counts q reply.answer before after

-- what answers requests, and how many steps were taken
pub record Counted (S : Type 0) : Type 0 where
  pub state : S
  pub steps : ℕ

abbrev pub counted : {S : Type 0} → S → ℕ → Counted S
counted state steps = record { state = state; steps = steps }

-- a request is answered so, and the steps rise by as many as it took
abbrev pub Counting : {S : Type 0} → (S → Request → Option Reply → S → Type 0)
    → Counted S → Request → Option Reply → Counted S → Type 0
Counting does before q told after =
    does before.state q told after.state × CountsTold q told before.steps after.steps
