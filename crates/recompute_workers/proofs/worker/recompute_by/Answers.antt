use Rattle.std.proofs.{Common.arith, lemmas.Grind.common_steps}
use Rattle.history_model.specs.declared.entries.Author.{Author, TheVariants.Recompute}
use Rattle.recompute_workers.{specs.Works.Works, proofs.Working.{works-none, works-trans, zip-none, zip-trans}}
use Rattle.recompute_workers.proofs.worker.recompute_by.Goals as goal

pub turns-init : goal.turns-init
turns-init g c = grind (arith, common_steps, zip-none, works-none)

pub returns-in_err-turn-clause-works : goal.returns-in_err-turn-clause-works
returns-in_err-turn-clause-works g c =
    let author : Author = Recompute c.args.number in
    zip-trans (Works author) (works-trans author) c.args.pass.now c.turns.pass c.turn.new.pass c.turns.invariant.works c.turn.ensures.works

pub returns-then-last-clause-works : goal.returns-then-last-clause-works
returns-then-last-clause-works g c =
    let author : Author = Recompute c.args.number in
    zip-trans (Works author) (works-trans author) c.args.pass.now c.turns.pass c.turn.new.pass c.turns.invariant.works c.turn.ensures.works

pub turns-preserved-then-not-branch : goal.turns-preserved-then-not-branch
turns-preserved-then-not-branch g c =
    let author : Author = Recompute c.args.number in
    record {
      room = c.turn.ensures.room;
      works = zip-trans (Works author) (works-trans author) c.args.pass.now c.turns.pass c.turn.new.pass c.turns.invariant.works c.turn.ensures.works;
    }

pub turns-preserved : goal.turns-preserved
turns-preserved g c =
    let author : Author = Recompute c.args.number in
    record {
      room = c.turn.ensures.room;
      works = zip-trans (Works author) (works-trans author) c.args.pass.now c.turns.pass c.turn.new.pass c.turns.invariant.works c.turn.ensures.works;
    }
