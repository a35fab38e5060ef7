use Rattle.script_desk.specs.Sessions.{AnswersSome}
use Rattle.script_session.proofs.Once.{some_once, scripts_once, begins_output}
use Rattle.script_session.proofs.laws.trial_law.Goals as goal

pub returns : goal.returns
returns c =
    let once = some_once c.outcome_law.ensures in
    record { answer = once; script = scripts_once AnswersSome once c.reading_law.ensures.one; begins = begins_output AnswersSome once c.reading_law.ensures.one c.reading_law.ensures.first }
