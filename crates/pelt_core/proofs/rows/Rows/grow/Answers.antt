use Rattle.std.proofs.Common.{◌≡◌, ℕ, ℤ, List, [], ◌∷◌, ◌++◌, ◌+◌, ◌-◌, ◌*◌, ◌<◌, ◌≤◌, length, slice_index, vec_capacity, ◌+ℤ◌, ◌∙◌, ap, FitsSigned, arith}
use Rattle.std.{specs.Int.w128, proofs.lemmas.Int.{ints, to_z-of_z}, proofs.lemmas.List.length-append}
use Rattle.segment_model.specs.Values.{cost_between}
use Rattle.pelt_core.{specs.Candidates.open_places, specs.Bounds.{AreInRange, HaveBounds}, specs.Rows.AddsRow, proofs.Growth.table-by}
use Rattle.pelt_core.proofs.Growing.{IsStep, least-size, are, next-candidates, next-totals, next-size, left-are, left-few, whole-table, whole-candidates, left-bounds, whole-bounds, filter-by, admitted-none, admitted-one}
use Rattle.pelt_core.proofs.rows.Rows.grow.Goals as goal
use Rattle.pelt_core.proofs.rows.Rows.grow.Goals.{After-renew}

pub mark_dear-any-requires : goal.mark_dear-any-requires
mark_dear-any-requires g c =
    let row : AddsRow c.args.penalty c.next_row-found.result c.args.self.now c.next_row-found.new.self = simp (to_z-of_z w128 c.args.penalty c.ranges.penalty) at c.next_row-found.ensures.row in
    let range = c.value_costs_law.ensures.in_range g.C.Cost.cost_of g.met.C.Cost.in_range (g.C.Cost.positions c.args.cost.now) c.requires.limits in
    record {
      candidates = rw (row.least, row.candidates) (next-candidates c.requires range c.table_law.ensures.in_range c.next_row-found.result c.next_row-found.ensures.found c.next_row-found.ensures.made);
      begins = rw (row.len, row.candidates) (are c.requires);
      index = rw row.candidates c.next_row-found.ensures.made.inside;
      least = rw row.least (next-size c.requires range c.table_law.ensures.in_range c.next_row-found.result c.next_row-found.ensures.found c.next_row-found.ensures.made);
      pruned = rw row.unmarked (omega (arith, length-append c.args.self.now.pruned.items (0 ∷ []), c.requires.pruned.table.tables.pruned_length, c.requires.some));
      length = rw row.len c.requires.pruned.length_from;
    }

module _ (g : _) (c : After-renew g) where
  abbrev ps : List (List ℤ)
  ps = g.C.Cost.positions c.args.cost.now

  abbrev cost : ℕ → ℕ → ℤ
  cost = cost_between g.C.Cost.cost_of (g.C.Cost.positions c.args.cost.now)

  -- the least totals with that of the last place, the marks, and the candidates that are left
  abbrev least : List ℤ
  least = c.args.self.now.least.items ++ (c.next_row-found.result.total +ℤ c.args.penalty) ∷ []

  abbrev marked : List ℕ
  marked = c.mark_dear-any.new.self.pruned.items

  abbrev left : List ℕ
  left = c.sweep-swept.new.self.candidates.items

  range : AreInRange cost (length ps)
  range = c.value_costs_law.ensures.in_range g.C.Cost.cost_of g.met.C.Cost.in_range ps c.requires.limits

  row : AddsRow c.args.penalty c.next_row-found.result c.args.self.now c.next_row-found.new.self
  row = simp (to_z-of_z w128 c.args.penalty c.ranges.penalty) at c.next_row-found.ensures.row

  ready : c.saturating_sub-ready.result ≡ length ps + 1 - c.args.self.now.length
  ready = omega (arith, c.saturating_sub-ready.ensures, c.len-t.ensures, c.from.ensures)

  step : IsStep g.C.Cost.cost_of ps c.args.penalty c.args.self.now c.next_row-found.result marked
  step = record {
    can = c.requires;
    range = range;
    merges = c.value_costs_law.ensures.merge g.C.Cost.cost_of g.met.C.Cost.merging ps (length ps);
    in_range = c.table_law.ensures.in_range;
    not_dear = c.last_cut_law.ensures.not_dear;
    first = c.next_row-found.ensures.found;
    made = c.next_row-found.ensures.made;
    looked = rw (row.len, row.least, row.candidates, row.unmarked) at c.mark_dear-any.ensures.marks;
  }

  candidates-same : c.mark_dear-any.new.self.candidates.items ≡ c.args.self.now.candidates.items
  candidates-same = c.mark_dear-any.ensures.same.candidates ∙ row.candidates

  swept-same : c.mark_dear-any.new.self.swept ≡ c.args.self.now.swept
  swept-same = c.mark_dear-any.ensures.same.swept ∙ row.swept

  left-open : (left ≡ open_places c.args.self.now.length c.sweep-swept.new.self.swept marked (length ps - c.args.self.now.length + 1)) × (c.sweep-swept.new.self.swept ≤ length ps + 1 - c.args.self.now.length)
  left-open =
      left-are step c.sweep-swept.result c.sweep-swept.new.self.swept left
      (λ no'. let is = c.sweep-swept.ensures.same no' in (is.0 ∙ candidates-same, is.1 ∙ swept-same))
      (λ yes'.
      let is = c.sweep-swept.ensures.fewer yes' in
      (filter-by c.saturating_sub-ready.result (length ps + 1 - c.args.self.now.length) marked c.mark_dear-any.new.self.candidates.items c.args.self.now.candidates.items left ready candidates-same is.0, is.1 ∙ ready))

  length-same : c.renew.new.self.length ≡ c.args.self.now.length
  length-same = c.renew.ensures.tables.len ∙ c.sweep-swept.ensures.tables.len ∙ c.mark_dear-any.ensures.same.len ∙ row.len

  least-same : c.renew.new.self.least.items ≡ least
  least-same = c.renew.ensures.tables.least ∙ c.sweep-swept.ensures.tables.least ∙ c.mark_dear-any.ensures.same.least ∙ row.least

  bounds-same : c.sweep-swept.new.self.bounds.items ≡ c.next_row-found.new.self.bounds.items
  bounds-same = c.sweep-swept.ensures.bounds ∙ c.mark_dear-any.ensures.same.bounds

  few : length left ≤ length ps
  few = left-few step c.sweep-swept.new.self.swept left left-open.0 left-open.1

  capacity : length ps + 1 ≤ vec_capacity c.renew.new.self.candidates
  capacity = omega (arith, c.renew.ensures.capacity, c.sweep-swept.ensures.capacity, c.mark_dear-any.ensures.same.capacity, row.capacity, c.requires.room.candidates, c.args.self.now.least.ok.0, least-size c.requires)

  many : length c.renew.new.self.bounds.items ≡ length c.args.self.now.bounds.items
  many = c.renew.ensures.many ∙ ap length bounds-same ∙ row.many

  room : length left < 256 * length c.args.self.now.bounds.items
  room = omega (arith, few, c.requires.room.bounds, least-size c.requires)

  bounds-left : HaveBounds cost (length ps) least left c.renew.new.self.leader c.renew.new.self.bounds.items
  bounds-left =
      let made_low = c.next_row-found.ensures.made.low in
      let made_high = c.next_row-found.ensures.made.high in
      let made_fits : FitsSigned w128 c.next_row-found.result.total = omega (arith, ints, made_low, made_high) in
      left-bounds step c.sweep-swept.new.self.swept left left-open.0 left-open.1 c.sweep-swept.result c.renew.new.self.leader c.next_row-found.new.self.bounds.items c.renew.new.self.bounds.items c.next_row-found.ensures.bounds
      (λ no'. (c.sweep-swept.ensures.same no').0 ∙ candidates-same)
      (λ no'. let is = c.renew.ensures.same no' in (is.0 ∙ bounds-same, is.1))
      (c.renew.ensures.many ∙ ap length bounds-same)
      (rw (bounds-same, c.len-t.ensures) at (simp to_z-of_z at c.renew.ensures.all)) (omega (arith, room, row.many))

pub admit-requires : goal.admit-requires
admit-requires g c =
    let k = (goal.at.admit-requires g c).After-renew in
    let size = next-size c.requires (range g k) c.table_law.ensures.in_range c.next_row-found.result c.next_row-found.ensures.found c.next_row-found.ensures.made in
    let placed : c.saturating_sub-ready.result ≤ length (g.C.Cost.positions c.args.cost.now) = omega (arith, ready g k, c.requires.pruned.length_from.0) in
    let kept : c.renew.new.self.candidates.items ≡ c.sweep-swept.new.self.candidates.items = c.renew.ensures.candidates in
    record {
      placed = rw (least-same g k) (omega (arith, size, placed));
      totals = rw (least-same g k) (next-totals c.requires (range g k) c.table_law.ensures.in_range c.next_row-found.result c.next_row-found.ensures.found c.next_row-found.ensures.made);
      few = rw kept (omega (arith, few g k, c.requires.limits.few_positions));
      bounds = rw kept (omega (arith, room g k, many g k));
      small = omega (arith, placed, c.requires.limits.few_positions);
      room = omega (arith, few g k, capacity g k, c.renew.new.self.candidates.ok.0, ap length kept);
    }

pub returns-clause-pruned : goal.returns-clause-pruned
returns-clause-pruned g c =
    let k = (goal.at.returns-clause-pruned g c).After-renew in
    let n : ℕ = length (g.C.Cost.positions c.args.cost.now) in
    let len : ℕ = c.args.self.now.length in
    let kept : c.renew.new.self.candidates.items ≡ left g k = c.renew.ensures.candidates in
    let same-length : c.admit.new.self.length ≡ c.args.self.now.length = c.admit.ensures.tables.len ∙ length-same g k in
    let least-now : c.admit.new.self.least.items ≡ least g k = c.admit.ensures.tables.least ∙ least-same g k in
    let back-now : c.admit.new.self.back.items ≡ c.args.self.now.back.items ++ slice_index c.args.self.now.candidates.items c.next_row-found.result.index ∷ [] =
    c.admit.ensures.tables.back ∙ c.renew.ensures.tables.back ∙ c.sweep-swept.ensures.tables.back ∙ c.mark_dear-any.ensures.same.back ∙ (row g k).back in
    let pruned-now : c.admit.new.self.pruned.items ≡ marked g k = c.admit.ensures.tables.pruned ∙ c.renew.ensures.tables.pruned ∙ c.sweep-swept.ensures.tables.pruned in
    let swept-now : c.admit.new.self.swept ≡ c.sweep-swept.new.self.swept = c.admit.ensures.swept ∙ c.renew.ensures.swept in
    let none = admitted-none c.len-t.result c.saturating_sub-ready.result n (n + 1 - len) len c.renew.new.self c.admit.new.self (left g k) (least g k) c.admit.ensures c.len-t.ensures (ready g k) (length-same g k) kept (least-same g k) in
    let one = admitted-one c.len-t.result c.saturating_sub-ready.result n (n + 1 - len) len c.renew.new.self c.admit.new.self (left g k) (least g k) c.admit.ensures c.len-t.ensures (ready g k) (length-same g k) kept (least-same g k) in
    let candidates = whole-candidates (step g k) c.sweep-swept.new.self.swept (left g k) (left-open g k).0 (left-open g k).1 c.admit.new.self.candidates.items
    (λ short. (none short).0) (λ enough. (one enough).1) in
    let bounds = whole-bounds (step g k) c.sweep-swept.new.self.swept (left g k) (left-open g k).0 (left-open g k).1 c.renew.new.self.leader c.admit.new.self.candidates.items c.renew.new.self.bounds.items c.admit.new.self.bounds.items
    (bounds-left g k) (omega (arith, room g k, many g k)) c.admit.ensures.many none one in
    record {
      length_from = rw same-length c.requires.pruned.length_from;
      table =
          rw same-length (table-by (cost g k) n c.args.penalty len (least g k) c.admit.new.self.least.items (c.args.self.now.back.items ++ slice_index c.args.self.now.candidates.items c.next_row-found.result.index ∷ []) c.admit.new.self.back.items
          (marked g k) c.admit.new.self.pruned.items least-now back-now pruned-now (whole-table (step g k) c.growth_law.ensures.next));
      swept = rw (same-length, swept-now) (left-open g k).1;
      candidates = rw (same-length, swept-now, pruned-now) candidates;
      bounds = rw (least-now, c.admit.ensures.leader) bounds;
      room = omega (arith, capacity g k, c.admit.ensures.capacity);
      wide = omega (arith, c.admit.ensures.many, many g k, c.requires.room.bounds, least-size c.requires);
    }

pub returns-clause-length : goal.returns-clause-length
returns-clause-length g c = c.admit.ensures.tables.len ∙ c.renew.ensures.tables.len ∙ c.sweep-swept.ensures.tables.len ∙ c.mark_dear-any.ensures.same.len ∙ c.next_row-found.ensures.row.len
