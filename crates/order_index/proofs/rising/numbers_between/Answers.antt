use Rattle.std.{proofs.Common.{get_or, add-one, ap, sym, ◌∙◌, ◌≡◌, ◌++◌, ◌∷◌, [], Some}, specs.Prelude.slice_get, proofs.lemmas.Option.slice_get-get_or}
use Rattle.history_model.specs.declared.entries.Declaration.{Declaration}
use Rattle.order_index.proofs.Halving.{from-next, kept-none_below, kept-more, kept-all}
use Rattle.order_index.proofs.rising.numbers_between.Goals as goal

pub loop-place-init : goal.loop-place-init
loop-place-init c = record {
  so_far = c.new-numbers.ensures ∙ sym (kept-none_below c.args.lo c.args.hi _ c.place_from-place.ensures.below);
  rest = c.place_from-place.ensures.rest;
}

pub returns-then-number-hi : goal.returns-then-number-hi
returns-then-number-hi c =
    let d : Declaration = get_or c.args.commits.now c.loop-place.place c.index-commits-place.result in
    let at : slice_get c.args.commits.now c.loop-place.place ≡ Some d =
    slice_get-get_or c.args.commits.now c.loop-place.place c.index-commits-place.result c.loop-place-test.true in
    c.loop-place.invariant.so_far
    ∙ kept-all c.args.lo c.args.hi c.args.commits.now c.loop-place.place d c.requires at c.if-number-hi.true

pub loop-place-preserved : goal.loop-place-preserved
loop-place-preserved c =
    let d : Declaration = get_or c.args.commits.now c.loop-place.place c.index-commits-place.result in
    let at : slice_get c.args.commits.now c.loop-place.place ≡ Some d =
    slice_get-get_or c.args.commits.now c.loop-place.place c.index-commits-place.result c.loop-place-test.true in
    let next = from-next c.args.lo c.args.commits.now c.loop-place.place d at c.loop-place.invariant.rest in
    record {
      so_far = rw (add-one c.loop-place.place)
          (c.in_ok-push.ensures.ok ∙ ap (λ ns. ns ++ d.number ∷ []) c.loop-place.invariant.so_far
          ∙ sym (kept-more c.args.lo c.args.hi c.args.commits.now c.loop-place.place d at next.0 c.if-number-hi.false));
      rest = rw (add-one c.loop-place.place) next.1;
    }
