use Rattle.std.proofs.lemmas.Grind.{common_steps}
use Rattle.std.{proofs.Common.{◌≡◌, ◌∙◌, ℕ, ◌+◌, ◌-◌, ◌<◌, List, [], drop, get_or, length, Option, ap, sym, arith}, specs.Map.lookup}
use Rattle.series_index.specs.{declared.tracked.Tracked.Tracked, Listed.{metrics_at, at_place}, Seen.is_same}
use Rattle.series_index.proofs.{ByPlace.one-behind, KnownSeries.one-place-more}
use Rattle.series_index.proofs.series.SeriesIndex.in_order.Goals as goal

abbrev Tests : Type 0
Tests = List (List ℕ × List (List ℕ × Tracked))

pub loop-done-preserved : goal.loop-done-preserved
loop-done-preserved c k is t =
    let now : Tests = c.args.self.now in
    let r : List ℕ × List (List ℕ × Tracked) = c.index.result.now in
    let none : List ℕ × List (List ℕ × Tracked) = ([], []) in
    let x : List ℕ × List (List ℕ × Tracked) = get_or now k none in
    let place : ℕ = c.len-count.result - 1 - c.loop-done.done in
    let count : c.len-count.result ≡ length now = c.len-count.ensures ∙ c.self.inside.tests.ok.0 ∙ ap (λ (es : Tests). length es) c.self.view_is in
    let here : place ≡ k = omega (arith, count, is) in
    let lt : k < length now = omega (arith, is) in
    let read : r ≡ x = grind (arith, common_steps) in
    let rest = c.loop-done.invariant (k + 1) (omega (arith, is)) t in
    let order : Option ℕ = lookup (λ (n : List ℕ). is_same t n) c.loop-done.order.entries in
    ap (at_place now) (c.in_ok-insert.ensures.updates.0 t)
    ∙ one-place-more now order place c.in_ok-key.key t x (drop (k + 1) now) (ap (metrics_at now) here)
    (c.in_ok-key.ensures ∙ ap (λ (e : List ℕ × List (List ℕ × Tracked)). e.0) read) rest
    ∙ sym (ap (λ (es : Tests). lookup (λ (n : List ℕ). is_same t n) es) (one-behind now k none lt))

pub returns : goal.returns
returns c t =
    let now : Tests = c.args.self.now in
    let count : c.len-count.result ≡ length now = c.len-count.ensures ∙ c.self.inside.tests.ok.0 ∙ ap (λ (es : Tests). length es) c.self.view_is in
    c.loop-done.invariant 0 (omega (arith, count)) t
