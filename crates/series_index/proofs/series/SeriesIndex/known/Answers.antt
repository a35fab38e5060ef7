use Rattle.std.{proofs.Common.{◌≡◌, List, ℕ, [], sym, subst, arith}, specs.Ordering.nat_cmp, proofs.lemmas.Grind.common_steps}
use Rattle.std.specs.{Cmp.Lexicographic.slice_cmp, List.AllByRecursion, List.Sorted.IsStrictlySortedBy, Map.keys_of}
use Rattle.history_model.specs.Runs.{Series}
use Rattle.series_index.specs.{declared.tracked.Tracked.Tracked, Known.AreKnown, Listed.{all_known, in_places}}
use Rattle.series_index.proofs.KnownSeries.{HasSorted, listed-in-order}
use Rattle.series_index.proofs.series.SeriesIndex.known.Goals as goal

abbrev Tests : Type 0
Tests = List (List ℕ × List (List ℕ × Tracked))

abbrev Order : Type 0
Order = List (List ℕ × ℕ)

pub returns : goal.returns
returns c =
    let now : Tests = c.args.self.now in
    let order : Order = c.in_ok-order.order.entries in
    let up : IsStrictlySortedBy (slice_cmp nat_cmp) (keys_of order) = c.into_iter-test-iterator.ensures.into_iter_gives.5 in
    let done : c.loop-test.test-iterator ≡ [] = c.in-None.ensures.steps.0 in
    let all : c.into_iter-test-iterator.result ≡ order = c.into_iter-test-iterator.ensures.into_iter_gives.0 in
    let names : all_known (in_places now order) ≡ c.loop-test.names = grind (arith, common_steps) in
    let each = subst (λ (es : Order). AllByRecursion HasSorted (in_places now es)) all
    (c.loop-test.invariant.1 (subst (λ (es : Order). AllByRecursion HasSorted (in_places now es)) (sym done) tt)) in
    subst (λ (ns : List Series). AreKnown now ns) names (listed-in-order now order up each c.in_ok-order.ensures)
