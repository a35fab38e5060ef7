use Rattle.std.{proofs.Common.{◌≡◌, ◌<◌, ◌+ℤ◌, [], ◌∷◌, length, pos, IsTrue, ◌↔◌, refl, ap, arith}, specs.Int.w128, proofs.lemmas.Int.to_z-of_z}
use Rattle.std.proofs.lemmas.List.{nil_from_length}
use Rattle.penalty_path.{specs.Paths.IsRange, specs.Steps.IsStep, proofs.Runs.{Runs, runs-of, path-of}}
use Rattle.penalty_path.proofs.Checks.{refuted, at-true, step-of, last-run, next-run, run-next, is-none, is-some, apart, IsBelow, below-range}
use Rattle.penalty_path.proofs.checked.check_path.Goals as goal
use Rattle.penalty_path.proofs.checked.check_path.Goals.{After-step_holds, After-from-1}

module _ (c : After-step_holds) where
  step_is : IsTrue c.step_holds.result ↔ IsStep c.args.points.now c.loop-stretch.from c.args.high c.in-Some.stretch.now c.in-Some.more.now
  step_is = rw c.loop-stretch.from-is at (simp (to_z-of_z w128 c.args.high c.ranges.high) at c.step_holds.ensures)

  same_is : Runs c.args.points.now c.loop-stretch.from c.args.high (c.in-Some.stretch.now ∷ c.in-Some.more.now) ↔ Runs c.args.points.now c.args.low c.args.high c.args.given.now
  same_is =
      let same = rw c.loop-stretch.from-is at (simp (to_z-of_z w128 c.args.high c.ranges.high, to_z-of_z w128 c.args.low c.ranges.low) at c.loop-stretch.invariant.same) in
      rw c.in-Some.ensures.cases.0 at same

  range_is : IsRange c.loop-stretch.from c.args.high
  range_is = rw c.loop-stretch.from-is at (simp (to_z-of_z w128 c.args.high c.ranges.high) at c.loop-stretch.invariant.range)

pub loop-stretch-init : goal.loop-stretch-init
loop-stretch-init c =
    simp (to_z-of_z w128 c.args.high c.ranges.high, to_z-of_z w128 c.args.low c.ranges.low, c.as_slice-rest.ensures) (record { same = (λ h. h, λ h. h); range = c.requires.range })

pub step_holds-requires-clause-range : goal.step_holds-requires-clause-range
step_holds-requires-clause-range c = c.loop-stretch.invariant.range

pub returns-then-not-step_holds : goal.returns-then-not-step_holds
returns-then-not-step_holds c =
    let k = (goal.at.returns-then-not-step_holds c).After-step_holds in
    refuted c.step_holds.result c.if-not-step_holds.true (step_is k).1
    (λ path. step-of c.args.points.now c.loop-stretch.from c.args.high c.in-Some.stretch.now c.in-Some.more.now ((same_is k).1 (runs-of c.args.points.now c.args.high c.args.low c.args.given.now path)))

pub returns-then-is_empty : goal.returns-then-is_empty
returns-then-is_empty c =
    let k = (goal.at.returns-then-is_empty c).After-step_holds in
    let none : c.in-Some.more.now ≡ [] = nil_from_length c.in-Some.more.now (is-none c.is_empty.result (length c.in-Some.more.now) c.is_empty.ensures c.if-is_empty.true) in
    let step = (step_is k).0 (at-true c.step_holds.result c.if-not-step_holds.false) in (
      λ e. path-of c.args.points.now c.args.high c.args.low c.args.given.now ((same_is k).0 (last-run c.args.points.now c.loop-stretch.from c.args.high c.in-Some.stretch.now c.in-Some.more.now none step)),
      λ path. refl,
    )

module _ (c : After-from-1) where
  step : IsStep c.args.points.now c.loop-stretch.from c.args.high c.in-Some.stretch.now c.in-Some.more.now
  step = (step_is (goal.at.overflow_add-from c).After-step_holds).0 (at-true c.step_holds.result c.if-not-step_holds.false)

  some : 0 < length c.in-Some.more.now
  some = is-some c.is_empty.result (length c.in-Some.more.now) c.is_empty.ensures c.if-is_empty.false

  range : IsRange c.loop-stretch.from c.args.high
  range = range_is (goal.at.overflow_add-from c).After-step_holds

  to_is : IsBelow c.loop-stretch.from c.in-Some.stretch.now.to c.args.high
  to_is = below-range c.args.points.now c.loop-stretch.from c.args.high c.in-Some.stretch.now c.in-Some.more.now some range step

pub overflow_add-from : goal.overflow_add-from
overflow_add-from c = simp (to_z-of_z w128 c.in-Some.stretch.now.to (to_is c).fits) (to_is c).next_fits

pub loop-stretch-smaller : goal.loop-stretch-smaller
loop-stretch-smaller c = let lt : length c.in-Some.more.now < length c.loop-stretch.rest.now = omega (arith, ap length c.in-Some.ensures.cases.0) in lt

pub loop-stretch-preserved : goal.loop-stretch-preserved
loop-stretch-preserved c =
    let to = c.in-Some.stretch.now.to in
    let same = same_is (goal.at.overflow_add-from c).After-step_holds in
    simp (
      to_z-of_z w128 c.in-Some.stretch.now.to (to_is c).fits,
      to_z-of_z w128 (c.in-Some.stretch.now.to +ℤ pos 1) (to_is c).next_fits,
      to_z-of_z w128 c.args.high c.ranges.high,
      to_z-of_z w128 c.args.low c.ranges.low,
    ) (record {
      same = (
        λ runs. same.0 (next-run c.args.points.now c.loop-stretch.from c.args.high c.in-Some.stretch.now c.in-Some.more.now (some c) (step c) runs),
        λ path. run-next c.args.points.now c.loop-stretch.from c.args.high c.in-Some.stretch.now c.in-Some.more.now (some c) (same.1 path),
      );
      range = (to_is c).range;
    })

pub returns : goal.returns
returns c =
    let none : c.loop-stretch.rest.now ≡ [] = nil_from_length c.loop-stretch.rest.now c.in_default.ensures.cases in
    let same = rw none at (rw c.loop-stretch.from-is at (simp (to_z-of_z w128 c.args.high c.ranges.high, to_z-of_z w128 c.args.low c.ranges.low) at c.loop-stretch.invariant.same)) in
    (λ e. absurd (apart e), λ path. absurd (same.1 (runs-of c.args.points.now c.args.high c.args.low c.args.given.now path)))
