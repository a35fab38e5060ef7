use Rattle.std.{proofs.Common.{ℕ, ℤ, List, [], ◌∷◌, ◌++◌, ◌-◌, ◌*◌, ◌^◌, ap, ◌∙◌, length, pos, neg_ℤ, ◌+ℤ◌, ◌≤ℤ◌, FitsSigned, refl, arith}, specs.Int.w128}
use Rattle.std.proofs.lemmas.{Int.{ints, to_z-of_z}, List.{take_at, get_or_read}}
use Rattle.segment_model.specs.Values.{cost_between}
use Rattle.pelt_core.{specs.Bounds.{AreInRange, IsFirst}, proofs.Search.found, proofs.Growth.first-at}
use Rattle.pelt_core.proofs.Growing.{last, some, few, bounds-for, are-candidates}
use Rattle.pelt_core.proofs.rows.Rows.next_row.Goals as goal

pub overflow_sub-len : goal.overflow_sub-len
overflow_sub-len g c = omega (arith, c.len.ensures, c.args.self.now.candidates.ok.0, some c.requires c.pruning_law.ensures.mark)

pub first_least-found-requires-clause-some : goal.first_least-found-requires-clause-some
first_least-found-requires-clause-some g c =
    let p = some c.requires c.pruning_law.ensures.mark in
    omega (arith, p, c.min-guess.ensures, c.len.ensures, c.deref-2.ensures.len, c.args.self.now.candidates.ok.0)

pub first_least-found-requires-clause-few : goal.first_least-found-requires-clause-few
first_least-found-requires-clause-few g c =
    rw c.deref-2.ensures.value (omega (arith, few c.requires))

pub first_least-found-requires-clause-candidates : goal.first_least-found-requires-clause-candidates
first_least-found-requires-clause-candidates g c =
    let range : AreInRange (cost_between g.C.Cost.cost_of (g.C.Cost.positions c.args.cost.now)) (length (g.C.Cost.positions c.args.cost.now)) =
    c.value_costs_law.ensures.in_range g.C.Cost.cost_of g.met.C.Cost.in_range (g.C.Cost.positions c.args.cost.now) c.requires.limits in
    rw (c.deref.ensures.value, c.deref-2.ensures.value)
    (are-candidates c.requires range c.table_law.ensures.in_range)

pub first_least-found-requires-clause-bounds : goal.first_least-found-requires-clause-bounds
first_least-found-requires-clause-bounds g c =
    rw (c.deref.ensures.value, c.deref-2.ensures.value, c.deref_mut.ensures.value)
    (bounds-for c.requires c.min-guess.result
    (λ lt. omega (arith, lt, c.min-guess.ensures, c.len.ensures, c.args.self.now.candidates.ok.0)))

pub returns-clause-found : goal.returns-clause-found
returns-clause-found g c =
    let is : IsFirst (cost_between g.C.Cost.cost_of (g.C.Cost.positions c.args.cost.now)) c.args.self.now.least.items (length (g.C.Cost.positions c.args.cost.now)) c.args.self.now.candidates.items c.min-guess.result
    (length c.args.self.now.candidates.items) c.first_least-found.result =
    rw (c.deref.ensures.value, c.deref-2.ensures.value) at c.first_least-found.ensures.found in
    let best = found (cost_between g.C.Cost.cost_of (g.C.Cost.positions c.args.cost.now)) c.args.self.now.least.items (length (g.C.Cost.positions c.args.cost.now)) c.args.self.now.candidates.items c.min-guess.result c.first_least-found.result is in
    first-at (cost_between g.C.Cost.cost_of (g.C.Cost.positions c.args.cost.now)) (length (g.C.Cost.positions c.args.cost.now) - 1) c.args.penalty c.args.self.now.length c.args.self.now.swept c.args.self.now.least.items c.args.self.now.back.items c.args.self.now.pruned.items c.args.self.now.candidates.items c.requires.pruned.table
    c.requires.pruned.length_from.0 c.requires.pruned.swept c.requires.pruned.candidates
    c.pruning_law.ensures.first (length (g.C.Cost.positions c.args.cost.now)) (last c.requires)
    (c.value_costs_law.ensures.merge g.C.Cost.cost_of g.met.C.Cost.merging (g.C.Cost.positions c.args.cost.now) (length (g.C.Cost.positions c.args.cost.now)))
    c.requires.low c.first_least-found.result.index is.made.inside best.0 best.1

sum_fits : (b total : ℤ) → pos 0 ≤ℤ b → b ≤ℤ pos (10 ^ 36) → neg_ℤ (pos (10 ^ 36)) ≤ℤ total → total ≤ℤ pos (2 * 10 ^ 37) → FitsSigned w128 (total +ℤ b)
sum_fits b total b_low b_high low high = omega (arith, ints, b_low, b_high, low, high)

pub returns-clause-row : goal.returns-clause-row
returns-clause-row g c =
    let low = c.first_least-found.ensures.found.made.low in
    let high = c.first_least-found.ensures.found.made.high in
    let total_fits : FitsSigned w128 c.first_least-found.result.total = omega (arith, ints, low, high) in
    let b_fits : FitsSigned w128 c.args.penalty = c.ranges.penalty in
    let fits : FitsSigned w128 (c.first_least-found.result.total +ℤ c.args.penalty) = sum_fits c.args.penalty c.first_least-found.result.total c.requires.low c.requires.high low high in
    let inside = rw c.deref-2.ensures.value at c.first_least-found.ensures.found.made.inside in
    record {
      least = simp to_z-of_z at c.push_reserved.ensures.items;
      back = c.push_reserved-2.ensures.items ∙ ap (λ (s : ℕ). c.args.self.now.back.items ++ s ∷ []) (get_or_read c.args.self.now.candidates.items c.first_least-found.result.index c.index.result.now inside c.index.ensures 0);
      unmarked = c.push_reserved-3.ensures.items;
      len = refl {A = ℕ};
      swept = refl {A = ℕ};
      candidates = refl {A = List ℕ};
      capacity = refl {A = ℕ};
      many = ap length (take_at c.first_least-found.new.bounds _ c.args.self.now.bounds.len (omega (arith, c.first_least-found.auto.bounds, c.deref_mut.ensures.len, c.args.self.now.bounds.ok.0))) ∙ c.first_least-found.auto.bounds ∙ ap length c.deref_mut.ensures.value;
    }
