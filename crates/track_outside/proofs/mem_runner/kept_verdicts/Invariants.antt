use Rattle.std.proofs.Common.{◌≡◌, take}
use Rattle.track_outside.specs.{Asked.verdicts_of, Bench.verdicts_in}
use Rattle.track_outside.proofs.mem_runner.kept_verdicts.Given as goal

abbrev pub invariant-loop-answer : goal.invariant-loop-answer
invariant-loop-answer l = verdicts_in l.kept.items ≡ verdicts_of (take l.answer-index l.answers)
