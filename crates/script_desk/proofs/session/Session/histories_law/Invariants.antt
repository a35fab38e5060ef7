use Rattle.std.{proofs.Common.take, specs.Prelude.All}
use Rattle.script_desk.specs.Sessions.{HasLegalHistory}
use Rattle.script_desk.proofs.session.Session.histories_law.Given as goal

-- the machines so far
abbrev pub invariant-loop-machine : goal.invariant-loop-machine
invariant-loop-machine l = All HasLegalHistory (take l.machine-index l.machine-items)
