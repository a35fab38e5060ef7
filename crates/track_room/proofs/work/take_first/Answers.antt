use Rattle.std.{proofs.Common.{rules, get_or, subst, Option, None, arith}, specs.Prelude.IfSome, proofs.lemmas.Grind.common_steps}
use Rattle.track_room.{specs.Sights.Visits, specs.Taking.seen_of, proofs.work.take_first.Goals.After-take}
use Rattle.track_room.proofs.{Firsts.{EntersNext, enters-all, enters-next, enters-none, entered, knows-next, takes-next}, work.take_first.Given.Over}
use Rattle.track_room.proofs.work.take_first.Goals as goal

pub loop-i-init : goal.loop-i-init
loop-i-init g c = enters-none (g.T.Take.takes None) c.args.machines.now c.args.passes.now c.requires.locks

-- the next machine is entered
next : (g : Over) (c : After-take g) → EntersNext (g.T.Take.takes None) c.loop-i.i c.args.machines.now c.args.passes.now c.loop-i.passes c.index-passes-i.result c.take.new.pass
next g c = record { before = c.loop-i.invariant; within = c.loop-i-test.true; is = c.index-passes-i.is; sees = c.take.ensures.sees }

pub loop-i-preserved : goal.loop-i-preserved
loop-i-preserved g c =
    enters-next (next g (goal.at.loop-i-preserved g c).After-take)
    (subst (λ (o : Option _). Visits (g.T.Take.takes o) (get_or c.loop-i.passes c.loop-i.i c.index-passes-i.result) c.take.new.pass) c.in_default.is c.in_ok-taken.ensures.taken)

pub returns-in_err-taken : goal.returns-in_err-taken
returns-in_err-taken g c =
    let all = entered (next g (goal.at.returns-in_err-taken g c).After-take) in
    record { sees = all.0; locks = all.1; same = all.2; taken = search rules; known = search rules }

pub returns-in-Some : goal.returns-in-Some
returns-in-Some g c =
    let one = next g (goal.at.returns-in-Some g c).After-take in
    let all = entered one in
    record {
      sees = all.0;
      locks = all.1;
      same = all.2;
      taken = grind (arith, common_steps, takes-next, one, get_or, g.T.Take.takes, c.in-Some.taken, c.loop-i.passes);
      known = knows-next one (g.T.Take.knows c.in-Some.taken)
          (subst (λ (o : Option _). IfSome o (λ x. g.T.Take.knows x (seen_of c.take.new.pass))) c.in-Some.is c.in_ok-taken.ensures.known);
    }

pub returns-clause-taken : goal.returns-clause-taken
returns-clause-taken g c = enters-all (g.T.Take.takes None) c.loop-i.i c.args.machines.now c.args.passes.now c.loop-i.passes c.requires.locks c.loop-i.invariant (omega (arith, c.loop-i-test.false))
