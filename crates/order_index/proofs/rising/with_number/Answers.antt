use Rattle.std.{proofs.Common.{arith, refl, sym, ◌≡◌, ◌≤◌, length, Some}, specs.Prelude.slice_get, proofs.lemmas.Option.slice_get_read}
use Rattle.history_model.specs.declared.entries.Declaration.{Declaration}
use Rattle.order_index.proofs.Halving.{from-next, none-there, found-there, found-none}
use Rattle.order_index.proofs.rising.with_number.Goals as goal

pub returns-then-place-commits : goal.returns-then-place-commits
returns-then-place-commits c =
    sym (none-there c.args.number c.args.commits.now c.place_from-place.result c.place_from-place.ensures.below
    (omega (arith, c.if-place-commits.true)))

pub returns-then-declaration-number : goal.returns-then-declaration-number
returns-then-declaration-number c =
    let d : Declaration = c.index-commits-place.result in
    let at : slice_get c.args.commits.now c.place_from-place.result ≡ Some d =
    slice_get_read c.args.commits.now (length c.args.commits.now) c.place_from-place.result d refl c.if-place-commits.false c.index-commits-place.is in
    let le : c.args.number ≤ d.number = (from-next c.args.number c.args.commits.now c.place_from-place.result d at c.place_from-place.ensures.rest).0 in
    sym (found-none c.args.number c.args.commits.now c.place_from-place.result d c.requires c.place_from-place.ensures.below at
    (omega (arith, le, c.if-declaration-number.true)))

pub returns : goal.returns
returns c =
    let d : Declaration = c.index-commits-place.result in
    let at : slice_get c.args.commits.now c.place_from-place.result ≡ Some d =
    slice_get_read c.args.commits.now (length c.args.commits.now) c.place_from-place.result d refl c.if-place-commits.false c.index-commits-place.is in
    sym (found-there c.args.number c.args.commits.now c.place_from-place.result d c.place_from-place.ensures.below at
    (omega (arith, c.if-declaration-number.false)))
