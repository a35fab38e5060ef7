use Rattle.std.proofs.Common.{◌≡◌, ◌≤◌, ◌<◌, ◌-◌, ◌∙◌, ap, sym, arith, List, ℤ, length, take, drop, refl}
use Rattle.segment_model.specs.Values.{joined, values_between}
use Rattle.prefix_sums.specs.Prefixes.{Summed}
use Rattle.absolute_cost.{specs.Blocks.{HaveSameSums, all_of}, proofs.Segments.{counts_rise, counts_within, part_is}, proofs.Sorted.same_by}
use Rattle.absolute_cost.proofs.{Counts.{same_length, same_small}, absolute.Absolute.segment.Goals.After-cut}
use Rattle.absolute_cost.proofs.absolute.Absolute.segment.Goals as goal

pub cut-requires-clause-rising : goal.cut-requires-clause-rising
cut-requires-clause-rising c =
    omega (arith, counts_rise c.values_law.ensures.parts c.self.inside.sums.positions c.args.s c.args.t (omega (arith, c.requires.rising)), c.part-from.ensures.counted, c.part-to.ensures.counted)

pub cut-requires-clause-inside : goal.cut-requires-clause-inside
cut-requires-clause-inside c =
    let same : c.self.inside.sums.positions ≡ c.args.self.now.positions = ap (λ (v : Summed). v.positions) c.self.view_is in
    let placed : c.args.t ≤ length c.self.inside.sums.positions = rw same c.requires.placed in
    let within = counts_within c.values_law.ensures.parts c.self.inside.sums.positions c.args.t placed in
    let all : length c.self.inside.values.items ≡ length (joined c.self.inside.sums.positions) = ap length c.self.invariant.0 in
    omega (arith, within, all, c.part-to.ensures.counted, ap length c.deref.ensures.value)

-- the values of the segment, as the pieces have them
module _ (c : After-cut) where
  same : c.self.inside.sums.positions ≡ c.args.self.now.positions
  same = ap (λ (v : Summed). v.positions) c.self.view_is

  placed : c.args.t ≤ length c.self.inside.sums.positions
  placed = rw same c.requires.placed

  values : HaveSameSums (values_between c.self.inside.sums.positions c.args.s c.args.t) (all_of c.cut.result.head.now c.cut.result.whole.now c.cut.result.tail.now)
  values =
      let whole = c.deref.ensures.value ∙ c.self.invariant.0 in
      let is = ap (λ (xs : List ℤ). take (c.part-to.result.count - c.part-from.result.count) (drop c.part-from.result.count xs)) whole
      ∙ part_is c.values_law.ensures.parts c.self.inside.sums.positions c.args.s c.args.t c.part-from.result.count c.part-to.result.count (omega (arith, c.requires.rising)) placed c.part-from.ensures.counted c.part-to.ensures.counted in
      same_by (values_between c.self.inside.sums.positions c.args.s c.args.t)
      (all_of c.cut.result.head.now c.cut.result.whole.now c.cut.result.tail.now) (take (c.part-to.result.count - c.part-from.result.count) (drop c.part-from.result.count c.deref.result.now))
      (all_of c.cut.result.head.now c.cut.result.whole.now c.cut.result.tail.now) (sym is) refl c.cut.ensures.same

  count : length (all_of c.cut.result.head.now c.cut.result.whole.now c.cut.result.tail.now) ≡ length (values_between c.self.inside.sums.positions c.args.s c.args.t)
  count = same_length (values_between c.self.inside.sums.positions c.args.s c.args.t) (all_of c.cut.result.head.now c.cut.result.whole.now c.cut.result.tail.now) values

pub returns-clause-values : goal.returns-clause-values
returns-clause-values c =
    same_by (values_between c.args.self.now.positions c.args.s c.args.t) (all_of c.cut.result.head.now c.cut.result.whole.now c.cut.result.tail.now) (values_between c.self.inside.sums.positions c.args.s c.args.t) (all_of c.cut.result.head.now c.cut.result.whole.now c.cut.result.tail.now)
    (ap (λ (ps : List (List ℤ)). values_between ps c.args.s c.args.t) (sym (same c))) refl (values c)

pub returns-clause-some : goal.returns-clause-some
returns-clause-some c =
    let some : 0 < length (values_between c.self.inside.sums.positions c.args.s c.args.t) = c.values_law.ensures.some c.self.inside.sums.positions c.limits.ensures c.args.s c.args.t c.requires.rising (placed c) in
    omega (arith, some, count c)

pub returns-clause-few : goal.returns-clause-few
returns-clause-few c =
    let within = c.values_law.ensures.within_limits c.self.inside.sums.positions c.limits.ensures c.args.s c.args.t (omega (arith, c.requires.rising)) (placed c) in
    omega (arith, within.1, count c)

pub returns-clause-small : goal.returns-clause-small
returns-clause-small c =
    let within = c.values_law.ensures.within_limits c.self.inside.sums.positions c.limits.ensures c.args.s c.args.t (omega (arith, c.requires.rising)) (placed c) in
    same_small (values_between c.self.inside.sums.positions c.args.s c.args.t) (all_of c.cut.result.head.now c.cut.result.whole.now c.cut.result.tail.now) (values c) within.0
