use Rattle.std.{proofs.Common.{get_or, arith, ◌≡◌, ◌<◌, ◌-◌, length, List, ℕ, Some}, specs.Prelude.slice_get, proofs.lemmas.Bool.ltb-true}
use Rattle.std.proofs.lemmas.Option.{slice_get-get_or}
use Rattle.history_model.specs.declared.entries.Declaration.{Declaration}
use Rattle.order_index.proofs.Halving.{all-below}
use Rattle.order_index.proofs.rising.is_above_all.Goals as goal

pub returns : goal.returns
returns c above =
    let ds : List Declaration = c.args.commits.now in
    let d : Declaration = get_or ds (length ds - 1) c.index-commits-count.result in
    let last : ℕ = length ds - 1 in
    let lt : d.number < c.args.number = ltb-true _ _ above in
    let at : slice_get ds last ≡ Some d = slice_get-get_or ds last c.index-commits-count.result (omega (arith, c.if-count-eq0.false)) in
    all-below c.args.number ds last d c.requires at lt (omega arith)
