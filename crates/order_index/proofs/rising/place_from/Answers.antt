use Rattle.std.{proofs.Common.{get_or, arith, add-one, ◌≡◌, ◌+◌, ◌-◌, ◌/◌, ℕ, Some}, specs.Prelude.slice_get, proofs.lemmas.Option.slice_get-get_or}
use Rattle.history_model.specs.declared.entries.Declaration.{Declaration}
use Rattle.order_index.proofs.Halving.{below-taken, from-dropped}
use Rattle.order_index.proofs.rising.place_from.Goals as goal

pub loop-low-preserved-then-commits-middle : goal.loop-low-preserved-then-commits-middle
loop-low-preserved-then-commits-middle c =
    let middle : ℕ = c.loop-low.low + (c.loop-low.high - c.loop-low.low) / 2 in
    let d : Declaration = get_or c.args.commits.now middle c.index-commits-middle.result in
    let at : slice_get c.args.commits.now middle ≡ Some d =
    slice_get-get_or c.args.commits.now middle c.index-commits-middle.result (omega (arith, c.loop-low.invariant.within, c.loop-low-test.true)) in
    record {
      order = omega (arith, c.loop-low-test.true);
      within = c.loop-low.invariant.within;
      below = rw (add-one middle) (below-taken c.args.number c.args.commits.now middle d c.requires at c.if-commits-middle.true);
      rest = c.loop-low.invariant.rest;
    }

pub loop-low-preserved : goal.loop-low-preserved
loop-low-preserved c =
    let middle : ℕ = c.loop-low.low + (c.loop-low.high - c.loop-low.low) / 2 in
    let d : Declaration = get_or c.args.commits.now middle c.index-commits-middle.result in
    let at : slice_get c.args.commits.now middle ≡ Some d =
    slice_get-get_or c.args.commits.now middle c.index-commits-middle.result (omega (arith, c.loop-low.invariant.within, c.loop-low-test.true)) in
    record {
      order = omega arith;
      within = omega (arith, c.loop-low.invariant.within, c.loop-low-test.true);
      below = c.loop-low.invariant.below;
      rest = from-dropped c.args.number c.args.commits.now middle d c.requires at c.if-commits-middle.false;
    }
