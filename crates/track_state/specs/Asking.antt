-- The question that is asked next.
use Rattle.std.specs.Prelude.{ℕ, List, Option, Some, None}
use Rattle.history_model.specs.declared.entries.Entry.{Entry}
use Rattle.track_state.specs.{Questions.{IsFirstQuestion, NoneIsAsked}, declared.questions.Question.Question}

-- the first question, or none where each open job is claimed
abbrev pub IsOpenQuestion : List Entry → List ℕ → Option Question → Type 0
IsOpenQuestion h claimed (Some q) = IsFirstQuestion h claimed q
IsOpenQuestion h claimed None = NoneIsAsked h claimed
