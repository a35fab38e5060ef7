use Rattle.std.proofs.{Common.arith, lemmas.Grind.common_steps}
use Rattle.history_model.specs.declared.entries.Author.TheVariants.{Bisect}
use Rattle.bisect_workers.{proofs.Besides.{joined, nothing, sees-all}, specs.Beside.IsBisectedIn, proofs.worker.bisect_by.Given.Over}
use Rattle.bisect_workers.proofs.worker.bisect_by.Goals.{After-turn}
use Rattle.bisect_workers.proofs.worker.bisect_by.Goals as goal

pub turns-init : goal.turns-init
turns-init g c = record {
  room = c.requires;
  bisected = nothing (Bisect c.args.number) c.args.test.now c.args.pass.now c.args.pass.now (g.A.Runner.asked c.args.runner.now) (g.A.Runner.faults c.args.runner.now) (g.A.Runner.faults c.args.runner.now)
      (sees-all c.args.pass.now) (omega arith);
}

-- after one turn more
bisected : (g : Over) (c : After-turn g) → IsBisectedIn (Bisect c.args.number) c.args.test.now c.args.pass.now c.turn.new.pass (g.A.Runner.asked c.args.runner.now) (g.A.Runner.asked c.turn.new.runner)
    (g.A.Runner.faults c.args.runner.now) (g.A.Runner.faults c.turn.new.runner)
bisected g c = grind (arith, common_steps, joined)

pub returns-in_err-turn-clause-bisected : goal.returns-in_err-turn-clause-bisected
returns-in_err-turn-clause-bisected g c = bisected g (goal.at.returns-in_err-turn-clause-bisected g c).After-turn

pub returns-then-last-clause-bisected : goal.returns-then-last-clause-bisected
returns-then-last-clause-bisected g c = bisected g (goal.at.returns-then-last-clause-bisected g c).After-turn

pub turns-preserved-then-not-branch : goal.turns-preserved-then-not-branch
turns-preserved-then-not-branch g c = record { room = c.turn.ensures.room; bisected = bisected g (goal.at.turns-preserved-then-not-branch g c).After-turn }

pub turns-preserved : goal.turns-preserved
turns-preserved g c = record { room = c.turn.ensures.room; bisected = bisected g (goal.at.turns-preserved g c).After-turn }
