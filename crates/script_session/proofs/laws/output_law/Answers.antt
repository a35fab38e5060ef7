use Rattle.script_desk.specs.Sessions.{AnswersFor}
use Rattle.script_session.proofs.{Once.{answers_once, outputs_once, script_once, scripts_once, begins_output}, Computed.outputs_exist}
use Rattle.script_loop.proofs.Opened.{open_first}
use Rattle.script_session.proofs.laws.output_law.Goals as goal

pub returns : goal.returns
returns c =
    let once = answers_once c.outcome_law.ensures in
    record {
      answer = once;
      some = outputs_exist;
      output = outputs_once AnswersFor once;
      reading = script_once c.reading_law.ensures.one;
      script = scripts_once AnswersFor once c.reading_law.ensures.one;
      begins = begins_output AnswersFor once c.reading_law.ensures.one c.reading_law.ensures.first;
      «open» = open_first;
    }
