use Rattle.std.proofs.Common.{◌≡◌, drop}
use Rattle.track_outside.specs.{Asked.verdict_on, Bench.verdicts_in}
use Rattle.track_outside.proofs.mem_runner.found_verdict.Given as goal

abbrev pub invariant-loop-verdict : goal.invariant-loop-verdict
invariant-loop-verdict l =
    verdict_on l.commit (verdicts_in l.kept) ≡ verdict_on l.commit (verdicts_in (drop l.verdict-index l.kept))
