-- What a request comes to: an answer, and the entry that it adds, if any.
use Rattle.std.specs.Prelude.{Bool, if◌then◌else◌, List, [], ◌∷◌, Option, Some, None}
use Rattle.metric_table.specs.declared.limits.Limit.{Limit}
use Rattle.history_model.specs.{declared.entries.Entry.Entry, Allowed.first_passed}
use Rattle.request_model.specs.declared.replies.{Answer.Answer, Answer.TheVariants.Refused, Refusal.Refusal, Refusal.TheVariants.Full}

pub record Outcome : Type 0 where
  pub answer : Answer
  pub adds : Option Entry

-- an answer that adds nothing
abbrev pub tells : Answer → Outcome
tells answer = record { answer = answer; adds = None }

abbrev pub refuses : Refusal → Outcome
refuses refusal = tells (Refused refusal)

-- a refusal where the test holds
abbrev pub refusal_if : Bool → Refusal → Option Answer
refusal_if test refusal = if test then Some (Refused refusal) else None

-- the first of the answers that is there
abbrev pub first : List (Option Answer) → Option Answer
first [] = None
first (Some answer ∷ answers) = Some answer
first (None ∷ answers) = first answers

-- the answer where there is one, else the outcome
abbrev pub unless : Option Answer → Outcome → Outcome
unless None outcome = outcome
unless (Some answer) outcome = tells answer

-- the entry is added where no limit is passed, else that limit is refused
abbrev pub added_unless : Option Limit → Entry → Answer → Outcome
added_unless None e answer = record { answer = answer; adds = Some e }
added_unless (Some limit) e answer = refuses (Full limit)

-- the entry is added where the history that it makes keeps these limits; else the first of them that it passes is refused
abbrev pub adds_within : List Limit → List Entry → Entry → Answer → Outcome
adds_within limits h e answer = added_unless (first_passed limits h e) e answer
