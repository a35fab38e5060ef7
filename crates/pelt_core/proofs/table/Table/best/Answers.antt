use Rattle.std.{proofs.Common.{◌≡◌, ℕ, ℤ, List, length, reverse, ◌^◌, ◌<◌, ◌∙◌, sym, ap, FitsSigned, arith}, specs.Int.w128}
use Rattle.std.proofs.lemmas.Int.{ints, to_z-of_z}
use Rattle.segment_model.specs.{Cuts.{IsBest, total}, Tables.{int_at, IsWalk}, Values.cost_between}
use Rattle.pelt_core.{specs.Seen.Tabled, proofs.Growth.read-at, proofs.Tables.total-of-none, proofs.table.Table.best.Goals.{then-n-eq0, else-n-eq0}}
use Rattle.pelt_core.proofs.table.Table.best.Goals as goal

pub cuts_back-requires-clause-below : goal.cuts_back-requires-clause-below
cuts_back-requires-clause-below g c = λ s lt.
    let in' = rw c.deref.ensures.value at lt in
    let h = c.self.invariant.pruned.table in
    rw c.deref.ensures.value (c.walk_law.ensures.before (cost_between g.C.Cost.cost_of (g.C.Cost.positions c.self.inside.cost)) (length (g.C.Cost.positions c.self.inside.cost)) c.self.inside.penalty c.self.inside.rows.length
    c.self.inside.rows.least.items c.self.inside.rows.back.items c.self.inside.rows.pruned.items h s (omega (arith, in', h.tables.back_length)))

pub returns : goal.returns
returns g c =
    let ps : List (List ℤ) = g.C.Cost.positions c.self.inside.cost in
    let cost : ℕ → ℕ → ℤ = cost_between g.C.Cost.cost_of (g.C.Cost.positions c.self.inside.cost) in
    let n : ℕ = length (g.C.Cost.positions c.self.inside.cost) in
    let b : ℤ = c.self.inside.penalty in
    let least : List ℤ = c.self.inside.rows.least.items in
    let h = c.self.invariant.pruned.table in
    let walk : IsWalk c.self.inside.rows.back.items n c.in_ok-cuts.cuts.items = rw (c.deref.ensures.value, c.len-n.ensures) at c.in_ok-cuts.ensures in
    let found = c.walk_law.ensures.best cost n b c.self.inside.rows.length c.self.inside.rows.least.items c.self.inside.rows.back.items c.self.inside.rows.pruned.items h n c.in_ok-cuts.cuts.items (omega arith) walk in
    let cuts : c.reverse.new.self.items ≡ reverse c.in_ok-cuts.cuts.items = c.reverse.ensures.items in
    let best : IsBest cost b c.self.inside.rows.length n c.reverse.new.self.items = rw cuts found.0 in
    rw (← ap (λ (t : Tabled). t.positions) c.self.view_is, ← ap (λ (t : Tabled). t.penalty) c.self.view_is, ← ap (λ (t : Tabled). t.length) c.self.view_is) (record {
      cuts = best;
      totalled = elim c.if-n-eq0.branch [
        | then-n-eq0 w ↦
            w.total-is ∙ sym (total-of-none g.C.Cost.cost_of g.met.C.Cost.merging g.met.C.Cost.in_range c.best_list_law.ensures.of_none ps b c.self.inside.rows.length n c.reverse.new.self.items (sym c.len-n.ensures ∙ w.if-n-eq0.true) best)
        | else-n-eq0 w ↦
            let some : 0 < length (g.C.Cost.positions c.self.inside.cost) = omega (arith, w.if-n-eq0.false, c.len-n.ensures) in
            let read : w.index.result.now ≡ int_at least n = read-at c.self.inside.rows.least.items n c.len-n.result w.index.result.now c.len-n.ensures (omega (arith, h.tables.least_length)) w.index.ensures in
            let range = c.table_law.ensures.in_range cost n (10 ^ 37) b c.self.inside.rows.length c.self.inside.rows.least.items c.self.inside.rows.back.items c.self.inside.rows.pruned.items c.self.invariant.low
            (c.value_costs_law.ensures.in_range g.C.Cost.cost_of g.met.C.Cost.in_range (g.C.Cost.positions c.self.inside.cost) c.self.invariant.within) h n (omega arith) in
            let fits' : FitsSigned w128 w.index.result.now = omega (arith, ints, read, range.0, range.1, c.self.invariant.high) in
            w.total-is ∙ to_z-of_z w128 w.index.result.now fits' ∙ read ∙ found.1 some ∙ sym (ap (total cost b n) cuts)
      ];
    })
