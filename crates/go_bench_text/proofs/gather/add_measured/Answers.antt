use Rattle.std.proofs.{Common.{List, subst, arith}, lemmas.Grind.common_steps}
use Rattle.go_bench_text.specs.{Fields.fields_of, Gathering.Gains, Pairs.samples_of, Readings.test_of, declared.pairs.Pair.Pair}
use Rattle.go_bench_text.proofs.LineParts.{adds_measured, adds_broken, is_headed}
use Rattle.go_bench_text.proofs.gather.add_measured.Goals as goal

pub returns-then-not-branch-clause-ok : goal.returns-then-not-branch-clause-ok
returns-then-not-branch-clause-ok c before e = grind (arith, common_steps, adds_broken, is_headed)

pub returns-clause-ok : goal.returns-clause-ok
returns-clause-ok c before e =
    let test = test_of c.args.pkg.now c.in-Some.name.now in
    adds_measured c.args.gathered.now c.add_pairs.new.self before c.args.line.now c.in-Some.name.now c.args.pkg.now (fields_of c.in-Some.behind.now) c.read_pairs.new.pairs.items c.in-Some.ensures.some
    (c.in_ok-read_pairs.ensures.read c.if-not-branch.false) e c.in_ok-add_pairs.ensures.short
    (subst (λ (pairs : List Pair). Gains c.args.gathered.now c.add_pairs.new.self (samples_of test pairs)) c.as_slice.ensures c.in_ok-add_pairs.ensures.ok)
