use Rattle.std.{proofs.Common.{get_or, arith, add-one, ap, sym, ◌∙◌, ◌≡◌, length, take, List, ℕ, Some}, specs.Prelude.slice_get, proofs.lemmas.List.length-take}
use Rattle.std.{proofs.lemmas.Option.slice_get-get_or, specs.List.position_from}
use Rattle.history_model.specs.{declared.entries.Declaration.Declaration, Commits.has_number}
use Rattle.order_index.proofs.{Additions.places-push, Halving.{none-before, taken-more}}
use Rattle.order_index.proofs.mapped.places_of.Goals as goal

pub loop-place-preserved : goal.loop-place-preserved
loop-place-preserved c =
    let ds : List Declaration = c.args.commits.now in
    let i : ℕ = c.loop-place.place in
    let d : Declaration = get_or ds i c.index-commits-place.result in
    let at : slice_get ds i ≡ Some d = slice_get-get_or ds i c.index-commits-place.result c.loop-place-test.true in
    let so_far : i ≡ length (take i ds) = omega (arith, c.loop-place-test.true, length-take i ds) in
    λ n. places-push c.loop-place.places c.insert.new.self (take i ds) d i c.loop-place.invariant (none-before ds i d c.requires at) so_far
    c.in_ok-insert.ensures.updates n
    ∙ ap (λ (es : List Declaration). position_from (has_number n) 0 es) (sym (taken-more ds i d at) ∙ ap (λ k. take k ds) (sym (add-one i)))
