use Rattle.std.proofs.Common.{◌-◌}
use Rattle.request_reader.specs.Scripts.{input_limit}
use Rattle.script_loop.specs.Turns.{Goes}
use Rattle.script_loop.proofs.script.answer_all.Given as goal

abbrev pub invariant-loop-lines : goal.invariant-loop-lines
invariant-loop-lines g l =
    Goes g.I.Source g.O.Sink l.initial.input l.input l.initial.out l.out g.D.Desk.answers g.P.Pace.each l.initial.desk l.desk l.lines l.replies

abbrev pub decreases-loop-lines : goal.decreases-loop-lines
decreases-loop-lines g l = input_limit - l.lines.before
