-- That each request of the script of a number is accepted.
use Rattle.std.specs.{Prelude.{◌≡◌, ◌≢◌, ℕ, List, []}, List.AllByRecursion}
use Rattle.request_model.specs.declared.replies.{Refusal.Refusal, Reply.Reply}
use Rattle.request_model.specs.declared.replies.Answer.TheVariants as answer
use Rattle.script_session.specs.Sessions.{State, AnswersFor}
use Rattle.script_loop.specs.{Folds.AreAnswers, Outputs.Out}
use Rattle.request_reader.specs.Scripts.{Ending}
use Rattle.series_gen.specs.Script.{script}
use Rattle.trial_script.specs.Requests.{items}

-- the reply refuses nothing
abbrev pub IsAccepted : Reply → Type 0
IsAccepted reply = (reason : Refusal) → reply.answer ≢ answer.Refused reason

-- whatever a session without machines answers the requests of a number, no reply is a refusal
abbrev pub EachIsAccepted : Type 0
EachIsAccepted = (number : ℕ) (before after : State) (replies : List Reply) → before.tracks ≡ [] → AreAnswers AnswersFor before (items number) replies after
    → AllByRecursion IsAccepted replies

-- so none is in its output of the script of a number
abbrev pub NoneIsRefused : Type 0
NoneIsRefused = (number : ℕ) (before after : State) (text : List ℕ) (ending : Ending) → before.tracks ≡ []
    → (out : Out AnswersFor before (script number) text after ending) → AllByRecursion IsAccepted out.output.replies
