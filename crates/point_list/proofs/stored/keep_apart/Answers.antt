use Rattle.std.proofs.lemmas.Grind.{common_steps}
use Rattle.std.{proofs.Common.{◌≡◌, ◌≤◌, ◌∙◌, ◌-◌, ℕ, List, ℤ, length, take, drop, ap, ap₂, sym, subst, pos, arith}, specs.Prelude.filter}
use Rattle.std.{specs.Int.{w64, cast_unsigned}, specs.List.Sorted.IsNonDecreasingBy, proofs.lemmas.List.{length-drop, drop-take}}
use Rattle.segment_model.specs.Edits.{by_another}
use Rattle.point_list.{specs.Stored.{samples_of, as_steps, without}, proofs.Samples.{length-front, steps-in-order, run-taken}}
use Rattle.point_list.proofs.stored.keep_apart.Goals.{Start, After-count_up_to-high}
use Rattle.point_list.proofs.stored.keep_apart.Goals as goal

-- the cells in use
abbrev live : List ℤ → ℕ → ℕ → List ℤ
live cells first end = drop first (take end cells)

seen : (cells : List ℤ) (first end : ℕ) → first ≤ end → live cells first end ≡ take (end - first) (drop first cells)
seen cells first end order = ap (λ k. drop first (take k cells)) (omega (arith, order)) ∙ drop-take first (end - first) cells

size : (cells : List ℤ) (first end : ℕ) → end ≤ length cells → length (live cells first end) ≡ end - first
size cells first end within = length-drop first (take end cells) ∙ ap (λ n. n - first) (length-front cells end within)

in_order : (c : Start) → IsNonDecreasingBy (cast_unsigned w64) (take (c.args.end - c.args.first) (drop c.args.first c.args.steps.now))
in_order c =
    let same = size c.args.steps.now c.args.first c.args.end c.requires.steps ∙ sym (size c.args.values.now c.args.first c.args.end c.requires.values) in
    subst (IsNonDecreasingBy (cast_unsigned w64)) (seen c.args.steps.now c.args.first c.args.end c.requires.order)
    (steps-in-order (live c.args.steps.now c.args.first c.args.end) (live c.args.values.now c.args.first c.args.end) same c.requires.in_order)

pub count_below-low-requires : goal.count_below-low-requires
count_below-low-requires c = in_order (goal.at.count_below-low-requires c).Start

pub count_up_to-high-requires : goal.count_up_to-high-requires
count_up_to-high-requires c = in_order (goal.at.count_up_to-high-requires c).Start

-- no step is both below the one and above it
ordered : (c : After-count_up_to-high) → c.count_below-low.result ≤ c.count_up_to-high.result
ordered c = grind (arith, c.count_below-low.ensures.below c.count_up_to-high.result (pos 0), c.count_up_to-high.ensures.rest c.count_up_to-high.result (pos 0))

pub close_gap-requires-clause-order : goal.close_gap-requires-clause-order
close_gap-requires-clause-order c = ordered (goal.at.close_gap-requires-clause-order c).After-count_up_to-high

pub close_gap-requires-2-clause-order : goal.close_gap-requires-2-clause-order
close_gap-requires-2-clause-order c = ordered (goal.at.close_gap-requires-2-clause-order c).After-count_up_to-high

pub overflow_sub-result : goal.overflow_sub-result
overflow_sub-result c = ordered (goal.at.overflow_sub-result c).After-count_up_to-high

pub overflow_sub-result-else-low-end : goal.overflow_sub-result-else-low-end
overflow_sub-result-else-low-end c = ordered (goal.at.overflow_sub-result-else-low-end c).After-count_up_to-high

-- what is left is what has another step
taken : (c : After-count_up_to-high)
    → samples_of (as_steps (without c.count_below-low.result c.count_up_to-high.result (live c.args.steps.now c.args.first c.args.end)))
    (without c.count_below-low.result c.count_up_to-high.result (live c.args.values.now c.args.first c.args.end))
    ≡ filter (by_another c.args.step) (samples_of (as_steps (live c.args.steps.now c.args.first c.args.end)) (live c.args.values.now c.args.first c.args.end))
taken c =
    let steps : List ℤ = live c.args.steps.now c.args.first c.args.end in
    let one = size c.args.steps.now c.args.first c.args.end c.requires.steps in
    let other = size c.args.values.now c.args.first c.args.end c.requires.values in
    let is : steps ≡ take (c.args.end - c.args.first) (drop c.args.first c.args.steps.now) = seen c.args.steps.now c.args.first c.args.end c.requires.order in
    let long : length (take (c.args.end - c.args.first) (drop c.args.first c.args.steps.now)) ≡ length steps = ap length (sym is) in
    run-taken c.args.step steps (live c.args.values.now c.args.first c.args.end) c.count_below-low.result c.count_up_to-high.result (one ∙ sym other) (ordered c) (omega (arith, long, c.count_up_to-high.ensures.within))
    (λ k e lt. rw is (c.count_below-low.ensures.below k e lt))
    (λ k e le lt. rw is (omega (arith, c.count_up_to-high.ensures.up_to k e lt, c.count_below-low.ensures.rest k e le (omega (arith, lt, c.count_up_to-high.ensures.within)))))
    (λ k e le lt. rw is (c.count_up_to-high.ensures.rest k e le (omega (arith, long, lt))))

pub returns-then-low-end-clause-kept : goal.returns-then-low-end-clause-kept
returns-then-low-end-clause-kept c = grind (arith, common_steps, ap₂, samples_of, as_steps, taken, goal.at.returns-then-low-end-clause-kept)

pub returns-else-low-end-clause-kept : goal.returns-else-low-end-clause-kept
returns-else-low-end-clause-kept c = grind (arith, common_steps, ap₂, samples_of, as_steps, taken, goal.at.returns-else-low-end-clause-kept)
