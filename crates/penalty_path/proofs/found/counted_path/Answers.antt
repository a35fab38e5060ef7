use Rattle.std.proofs.Common.{◌≡◌, ℕ, ℤ, ◌+◌, refl, ◌-◌, ◌*◌, ◌^◌, ◌<◌, ◌≤◌, [], ◌∷◌, ◌++◌, length, reverse, sym, ◌∙◌, unsigned_abs, pos, ◌-ℤ◌, ◌≤ℤ◌, ◌<ℤ◌, FitsSigned, subst, arith}
use Rattle.std.{specs.Int.w128, proofs.lemmas.Int.{ints, to_z-of_z}, proofs.lemmas.List.{nil_from_length, reverse-append, length-append}}
use Rattle.segment_cost.specs.Certificate.{StandsFor}
use Rattle.penalty_path.{specs.Paths.{IsStretch, IsPath}, specs.Growing.{extended, single, stretches_of}, proofs.Checks.{at-true, is-not}}
use Rattle.penalty_path.proofs.Ahead.{Ahead, nearest, within, smaller-taken, put-between, smaller-put, one-ahead, none-ahead, next-but-one}
use Rattle.penalty_path.{proofs.Growing.{extended-path, appended-path, single-path-at, last-stretch, fewer-cuts}, specs.Crossing.Parts}
use Rattle.penalty_path.proofs.{Known.best-stands, Whole.few-cuts, Room.{Room, room-same, room-next, room-between, room-few, one-room}}
use Rattle.penalty_path.proofs.found.counted_path.Goals as goal
use Rattle.penalty_path.proofs.found.counted_path.Goals.{In-Some, In_default, then-low-high+in_ok-segmentation-2+in_ok-push, else-low-high}

module _ (c : In-Some) where
  path_is : IsPath c.args.points.now c.args.low c.loop-next.grown.current.to (stretches_of c.loop-next.grown)
  path_is = simp (to_z-of_z w128 c.args.low c.ranges.low) at c.loop-next.invariant.path

  ahead_is : Ahead c.args.points.now c.loop-next.grown.current.to c.args.high (reverse c.loop-next.ahead.items)
  ahead_is = simp (to_z-of_z w128 c.args.high c.ranges.high) at c.loop-next.invariant.ahead

  popped : c.loop-next.ahead.items ≡ c.pop.new.self.items ++ c.in-Some.next ∷ []
  popped = c.in-Some.ensures.items

  near : Ahead c.args.points.now c.loop-next.grown.current.to c.args.high (c.in-Some.next ∷ reverse c.pop.new.self.items)
  near = nearest c.args.points.now c.args.high c.loop-next.grown.current.to c.loop-next.ahead.items c.pop.new.self.items c.in-Some.next popped ahead_is

  inside : c.in-Some.next.penalty ≤ℤ c.args.high
  inside = within c.args.points.now c.args.high c.loop-next.grown.current.to c.loop-next.ahead.items c.pop.new.self.items c.in-Some.next popped ahead_is

  taken : 2 * unsigned_abs (c.args.high -ℤ c.in-Some.next.penalty) - length c.pop.new.self.items < 2 * unsigned_abs (c.args.high -ℤ c.loop-next.grown.current.to) - length c.loop-next.ahead.items
  taken = smaller-taken c.args.points.now c.args.high c.loop-next.grown.current.to c.loop-next.ahead.items c.pop.new.self.items c.in-Some.next popped ahead_is

  current : IsStretch c.args.points.now c.loop-next.grown.current × (c.args.low ≤ℤ c.loop-next.grown.current.from)
  current = last-stretch c.args.points.now c.args.low c.loop-next.grown.current.to c.loop-next.grown.done.items c.loop-next.grown.current path_is

  low_is : pos 0 ≤ℤ c.loop-next.grown.current.to
  low_is = omega (arith, ints, current.0.rises, current.1, c.requires.range.above)

  high_is : c.in-Some.next.penalty ≤ℤ pos (10 ^ 36)
  high_is = omega (arith, ints, inside, c.requires.range.below)

  to_fits : FitsSigned w128 c.loop-next.grown.current.to
  to_fits = omega (arith, ints, low_is, high_is, near.0)

  cuts_differ : (c.loop-next.grown.current.last.cuts ≡ c.in-Some.next.cuts → ⊥) → length c.in-Some.next.cuts < length c.loop-next.grown.current.last.cuts
  cuts_differ apart = fewer-cuts c.args.points.now (c.points_law.ensures c.args.points.now) c.loop-next.grown.current c.in-Some.next current.0 near.1 near.0 apart

  room_is : Room c.args.points.now c.loop-next.grown.current.last (c.in-Some.next ∷ reverse c.pop.new.self.items) c.loop-next.invariant.room.0
  room_is = rw (popped, reverse-append c.pop.new.self.items (c.in-Some.next ∷ [])) at c.loop-next.invariant.room.1

  last_stands : StandsFor c.args.points.now c.loop-next.grown.current.last.penalty 1 c.loop-next.grown.current.last
  last_stands = subst (λ (z : ℤ). StandsFor c.args.points.now z 1 c.loop-next.grown.current.last) (sym current.0.last.same_penalty) current.0.last

  few_tables : c.loop-next.tables ≤ 6 * 1_024
  few_tables =
      let points = c.args.points.now in
      let last = c.loop-next.grown.current.last in
      let short = c.path_law.ensures.short c.args.points.now c.args.low c.loop-next.grown.current.to (stretches_of c.loop-next.grown) path_is in
      let room = room-few c.args.points.now (c.points_law.ensures c.args.points.now) c.args.high c.loop-next.grown.current.to c.loop-next.grown.current.last (reverse c.loop-next.ahead.items)
      c.loop-next.invariant.room.0 current.0.last ahead_is c.loop-next.invariant.room.1 in
      let cuts = few-cuts 1 (length c.args.points.now) c.loop-next.grown.current.last.cuts (best-stands c.args.points.now c.loop-next.grown.current.to c.loop-next.grown.current.last current.0.last).best.is_cut_list in
      let few = c.requires.few in
      let all = c.loop-next.invariant.room.2 in
      omega (arith, short, room, cuts, few, all)

module _ (c : In_default) where
  none_ahead : c.loop-next.ahead.items ≡ []
  none_ahead =
      let sized = c.loop-next.ahead.ok in
      let empty = c.in_default.ensures.cases in
      nil_from_length c.loop-next.ahead.items (omega (arith, sized, empty))

  -- nothing is ahead, so that the path is whole
  whole : IsPath c.args.points.now c.args.low c.args.high (stretches_of c.loop-next.grown)
  whole =
      let path : IsPath c.args.points.now c.args.low c.loop-next.grown.current.to (stretches_of c.loop-next.grown) = simp (to_z-of_z w128 c.args.low c.ranges.low) at c.loop-next.invariant.path in
      let ahead : Ahead c.args.points.now c.loop-next.grown.current.to c.args.high (reverse c.loop-next.ahead.items) = simp (to_z-of_z w128 c.args.high c.ranges.high) at c.loop-next.invariant.ahead in
      let none = none_ahead in
      let end : c.loop-next.grown.current.to ≡ c.args.high = rw none at ahead in
      subst (λ (z : ℤ). IsPath c.args.points.now c.args.low z (stretches_of c.loop-next.grown)) end path

pub loop-next-init : goal.loop-next-init
loop-next-init c =
    let points = c.args.points.now in
    let cert = c.in_ok-segmentation.field-0 in
    let stands : StandsFor points c.args.low 1 cert = simp (to_z-of_z w128 c.args.low c.ranges.low) at c.in_ok-segmentation.ensures in
    let end : c.in_ok-grown.grown.current.to ≡ c.args.low = c.in_ok-grown.ensures.end ∙ stands.same_penalty in
    let rises = c.requires.range.rises in
    let ahead : Ahead points c.args.low c.args.high (reverse c.if-low-high.ahead.items) = elim c.if-low-high.branch [
      | then-low-high+in_ok-segmentation-2+in_ok-push w ↦
          let stands' : StandsFor points c.args.high 1 w.in_ok-segmentation-2.field-0 = simp (to_z-of_z w128 c.args.high c.ranges.high) at w.in_ok-segmentation-2.ensures in
          let lt : c.args.low <ℤ c.args.high = omega (arith, ints, w.if-low-high.true) in
          let is : c.if-low-high.ahead.items ≡ w.in_ok-segmentation-2.field-0 ∷ [] = rw (w.ahead-is, w.in_ok-push.ensures.items, c.new-ahead.ensures.items) in
          one-ahead points c.args.low c.args.high c.if-low-high.ahead.items w.in_ok-segmentation-2.field-0 is lt stands'
      | else-low-high w ↦
          let same : c.args.low ≡ c.args.high = omega (arith, ints, w.if-low-high.false, rises) in
          let is : c.if-low-high.ahead.items ≡ [] = rw (w.ahead-is, c.new-ahead.ensures.items) in
          none-ahead points c.args.low c.args.high c.if-low-high.ahead.items is same
    ] in
    let own : StandsFor points cert.penalty 1 cert = subst (λ (z : ℤ). StandsFor points z 1 cert) (sym stands.same_penalty) stands in
    let room : (room : ℕ) × Room points cert (reverse c.if-low-high.ahead.items) room × (c.if-low-high.tables ≤ 3 * 1 + room) = elim c.if-low-high.branch [
      | then-low-high+in_ok-segmentation-2+in_ok-push w ↦
          let stands' : StandsFor points c.args.high 1 w.in_ok-segmentation-2.field-0 = simp (to_z-of_z w128 c.args.high c.ranges.high) at w.in_ok-segmentation-2.ensures in
          let own' : StandsFor points w.in_ok-segmentation-2.field-0.penalty 1 w.in_ok-segmentation-2.field-0 =
          subst (λ (z : ℤ). StandsFor points z 1 w.in_ok-segmentation-2.field-0) (sym stands'.same_penalty) stands' in
          let is : c.if-low-high.ahead.items ≡ w.in_ok-segmentation-2.field-0 ∷ [] = rw (w.ahead-is, w.in_ok-push.ensures.items, c.new-ahead.ensures.items) in
          let found = one-room points (c.points_law.ensures points) cert w.in_ok-segmentation-2.field-0 own own' in
          let two = w.tables-is in
          (found.0, rw is found.1, omega (arith, two))
      | else-low-high w ↦
          let is : c.if-low-high.ahead.items ≡ [] = rw (w.ahead-is, c.new-ahead.ensures.items) in
          let one = w.tables-is in
          (0, rw is refl, omega (arith, one))
    ] in
    simp (to_z-of_z w128 c.args.low c.ranges.low, to_z-of_z w128 c.args.high c.ranges.high) (record {
      path = rw (c.in_ok-grown.ensures.stretches, end) (single-path-at points (c.points_law.ensures points) c.args.low cert stands);
      ahead = rw end ahead;
      room = rw (c.in_ok-grown.ensures.stretches, c.in_ok-grown.ensures.last) room;
    })

pub loop-next-smaller-then-same_cuts : goal.loop-next-smaller-then-same_cuts
loop-next-smaller-then-same_cuts c =
    let k = (goal.at.loop-next-smaller-then-same_cuts c).In-Some in
    simp (to_z-of_z w128 c.args.high c.ranges.high) (rw c.extend.ensures.end (taken k))

pub loop-next-preserved-then-same_cuts : goal.loop-next-preserved-then-same_cuts
loop-next-preserved-then-same_cuts c =
    let k = (goal.at.loop-next-preserved-then-same_cuts c).In-Some in
    let points = c.args.points.now in
    let same = c.same_cuts.ensures.0 (at-true c.same_cuts.result c.if-same_cuts.true) in
    simp (to_z-of_z w128 c.args.low c.ranges.low, to_z-of_z w128 c.args.high c.ranges.high) (rw (c.extend.ensures.stretches, c.extend.ensures.end) (record {
      path = extended-path points (c.points_law.ensures points) c.args.low c.loop-next.grown.done.items c.loop-next.grown.current c.in-Some.next (path_is k) (near k).1 (near k).0 same;
      ahead = (near k).2;
      room = (
        c.loop-next.invariant.room.0,
        rw c.extend.ensures.last (room-same points (c.points_law.ensures points) c.loop-next.grown.current.last c.in-Some.next (reverse c.pop.new.self.items) c.loop-next.invariant.room.0 same (room_is k)),
        omega (
          arith,
          c.loop-next.invariant.room.2,
          length-append c.loop-next.grown.done.items (c.loop-next.grown.current ∷ []),
          length-append c.loop-next.grown.done.items (extended c.loop-next.grown.current c.in-Some.next ∷ []),
        ),
      );
    }))

pub loop-next-smaller-in_ok-append : goal.loop-next-smaller-in_ok-append
loop-next-smaller-in_ok-append c =
    let k = (goal.at.loop-next-smaller-in_ok-append c).In-Some in
    simp (to_z-of_z w128 c.args.high c.ranges.high) (rw c.in_ok-append.ensures.end (taken k))

pub is_next-requires-clause-low : goal.is_next-requires-clause-low
is_next-requires-clause-low c = let k = (goal.at.is_next-requires-clause-low c).In-Some in simp (to_z-of_z w128 c.loop-next.grown.current.to (to_fits k)) (low_is k)

pub is_next-requires-clause-high : goal.is_next-requires-clause-high
is_next-requires-clause-high c =
    let k = (goal.at.is_next-requires-clause-high c).In-Some in
    let high : c.loop-next.grown.current.to ≤ℤ pos (10 ^ 36) = omega (arith, ints, high_is k, (near k).0) in
    simp (to_z-of_z w128 c.loop-next.grown.current.to (to_fits k)) high

pub loop-next-preserved-in_ok-append : goal.loop-next-preserved-in_ok-append
loop-next-preserved-in_ok-append c =
    let k = (goal.at.loop-next-preserved-in_ok-append c).In-Some in
    let points = c.args.points.now in
    let told = simp (to_z-of_z w128 c.loop-next.grown.current.to (to_fits k)) at c.is_next.ensures in
    let next = told.0 (at-true c.is_next.result c.if-is_next.true) in
    let differs = is-not c.same_cuts.result c.if-same_cuts.false c.same_cuts.ensures.1 in
    let rest = room-next points (c.points_law.ensures points) c.loop-next.grown.current.last c.in-Some.next (reverse c.pop.new.self.items) c.loop-next.invariant.room.0 differs (room_is k) in
    simp (to_z-of_z w128 c.args.low c.ranges.low, to_z-of_z w128 c.args.high c.ranges.high) (rw (c.in_ok-append.ensures.stretches, c.in_ok-append.ensures.end) (record {
      path = appended-path points (c.points_law.ensures points) c.args.low c.loop-next.grown.done.items c.loop-next.grown.current c.in-Some.next (path_is k) (near k).1 next (λ e. differs (sym e));
      ahead = (near k).2;
      room = (
        rest.0,
        rw c.in_ok-append.ensures.last rest.2,
        omega (arith, c.loop-next.invariant.room.2, rest.1, length-append (stretches_of c.loop-next.grown) (single c.in-Some.next ∷ [])),
      );
    }))

pub middle-requires-clause-bounded : goal.middle-requires-clause-bounded
middle-requires-clause-bounded c =
    let k = (goal.at.middle-requires-clause-bounded c).In-Some in
    let high : c.loop-next.grown.current.to ≤ℤ pos (10 ^ 36) = omega (arith, ints, high_is k, (near k).0) in
    c.bounds_law.ensures c.loop-next.grown.current.to c.loop-next.grown.current.last (low_is k) high (current k).0.last

pub middle-requires-clause-next_bounded : goal.middle-requires-clause-next_bounded
middle-requires-clause-next_bounded c =
    let k = (goal.at.middle-requires-clause-next_bounded c).In-Some in
    let low : pos 0 ≤ℤ c.in-Some.next.penalty = omega (arith, ints, low_is k, (near k).0) in
    c.bounds_law.ensures c.in-Some.next.penalty c.in-Some.next low (high_is k) (near k).1

pub middle-requires-clause-fewer : goal.middle-requires-clause-fewer
middle-requires-clause-fewer c =
    let k = (goal.at.middle-requires-clause-fewer c).In-Some in
    cuts_differ k (is-not c.same_cuts.result c.if-same_cuts.false c.same_cuts.ensures.1)

pub middle-requires-clause-apart : goal.middle-requires-clause-apart
middle-requires-clause-apart c =
    let k = (goal.at.middle-requires-clause-apart c).In-Some in
    let told = simp (to_z-of_z w128 c.loop-next.grown.current.to (to_fits k)) at c.is_next.ensures in
    let apart = is-not c.is_next.result c.if-is_next.false told.1 in
    let same = (current k).0.last.same_penalty in
    rw same (next-but-one c.loop-next.grown.current.to c.in-Some.next.penalty (near k).0 apart)

pub segmentation-requires-else-is_next-clause-low : goal.segmentation-requires-else-is_next-clause-low
segmentation-requires-else-is_next-clause-low c =
    let k = (goal.at.segmentation-requires-else-is_next-clause-low c).In-Some in
    let fits : FitsSigned w128 c.middle.result = record { sfits = c.middle.type_inv } in
    let same = (current k).0.last.same_penalty in
    let low = low_is k in
    let above = c.middle.ensures.above in
    simp (to_z-of_z w128 c.middle.result fits) (omega (arith, ints, low, same, above))

pub segmentation-requires-else-is_next-clause-high : goal.segmentation-requires-else-is_next-clause-high
segmentation-requires-else-is_next-clause-high c =
    let k = (goal.at.segmentation-requires-else-is_next-clause-high c).In-Some in
    let fits : FitsSigned w128 c.middle.result = record { sfits = c.middle.type_inv } in
    let high = high_is k in
    let below = c.middle.ensures.below in
    simp (to_z-of_z w128 c.middle.result fits) (omega (arith, ints, high, below))

pub loop-next-smaller : goal.loop-next-smaller
loop-next-smaller c =
    let k = (goal.at.loop-next-smaller c).In-Some in
    simp (to_z-of_z w128 c.args.high c.ranges.high) (rw (c.in_ok-push-3.ensures.items, c.in_ok-push-2.ensures.items) (smaller-put c.args.points.now c.args.high c.loop-next.grown.current.to
    c.loop-next.ahead.items c.pop.new.self.items c.in-Some.next (popped k) (ahead_is k) c.in_ok-cert.cert))

pub loop-next-preserved : goal.loop-next-preserved
loop-next-preserved c =
    let k = (goal.at.loop-next-preserved c).In-Some in
    let points = c.args.points.now in
    let cert = c.in_ok-cert.cert in
    let fits : FitsSigned w128 c.middle.result = record { sfits = c.middle.type_inv } in
    let stands : StandsFor points c.middle.result 1 cert = simp (to_z-of_z w128 c.middle.result fits) at c.in_ok-cert.ensures in
    let own : StandsFor points cert.penalty 1 cert = subst (λ (z : ℤ). StandsFor points z 1 cert) (sym stands.same_penalty) stands in
    let same = (current k).0.last.same_penalty in
    let middle_above = c.middle.ensures.above in
    let middle_below = c.middle.ensures.below in
    let is = stands.same_penalty in
    let above : c.loop-next.grown.current.to <ℤ cert.penalty = omega (arith, ints, same, middle_above, is) in
    let below : cert.penalty <ℤ c.in-Some.next.penalty = omega (arith, ints, middle_below, is) in
    let above_last : c.loop-next.grown.current.last.penalty <ℤ cert.penalty = omega (arith, ints, middle_above, is) in
    let differs = is-not c.same_cuts.result c.if-same_cuts.false c.same_cuts.ensures.1 in
    let parts : Parts c.loop-next.grown.current.last c.in-Some.next cert.penalty = subst (λ (z : ℤ). Parts c.loop-next.grown.current.last c.in-Some.next z) (sym is) c.middle.ensures.parts in
    simp (to_z-of_z w128 c.args.low c.ranges.low, to_z-of_z w128 c.args.high c.ranges.high) (record {
      path = path_is k;
      ahead = rw (c.in_ok-push-3.ensures.items, c.in_ok-push-2.ensures.items) (put-between points c.args.high c.loop-next.grown.current.to c.loop-next.ahead.items c.pop.new.self.items
          c.in-Some.next (popped k) (ahead_is k) cert above below own);
      room = (
        c.loop-next.invariant.room.0 + 1,
        rw (c.in_ok-push-3.ensures.items, c.in_ok-push-2.ensures.items, reverse-append (c.pop.new.self.items ++ c.in-Some.next ∷ []) (c.in_ok-cert.cert ∷ []), reverse-append c.pop.new.self.items (c.in-Some.next ∷ []))
            (room-between points (c.points_law.ensures points) c.loop-next.grown.current.last c.in_ok-cert.cert c.in-Some.next (reverse c.pop.new.self.items) c.loop-next.invariant.room.0
            (last_stands k) own (near k).1 above_last below differs parts (room_is k)),
        omega (arith, c.loop-next.invariant.room.2),
      );
    })

pub overflow_add-tables : goal.overflow_add-tables
overflow_add-tables c = let few = few_tables (goal.at.overflow_add-tables c).In-Some in omega (arith, few)

pub returns-clause-path : goal.returns-clause-path
returns-clause-path c = rw c.in_ok-stretches.ensures (whole (goal.at.returns-clause-path c).In_default)

pub returns-clause-tables : goal.returns-clause-tables
returns-clause-tables c =
    let none = none_ahead (goal.at.returns-clause-tables c).In_default in
    let empty : c.loop-next.invariant.room.0 ≡ 0 = rw none at c.loop-next.invariant.room.1 in
    rw c.in_ok-stretches.ensures (omega (arith, c.loop-next.invariant.room.2, empty))
