use Rattle.std.proofs.Common.{ℕ, ◌<◌, ◌≤◌, length}
use Rattle.segment_model.specs.{Tables.MayBegin, Values.cost_between}
use Rattle.pelt_core.specs.Candidates.{AreLookedAt}
use Rattle.pelt_core.proofs.candidates.mark_between.Given as goal

abbrev pub invariant-loop-s : goal.invariant-loop-s
invariant-loop-s g l =
    (l.from ≤ l.s)
    × ((len : ℕ) → ((s : ℕ) → l.from ≤ s → s < l.to → MayBegin len s)
    → AreLookedAt (cost_between g.C.Cost.cost_of (g.C.Cost.positions l.cost)) len l.least (length (g.C.Cost.positions l.cost)) (λ s. (l.from ≤ s) × (s < l.s)) l.fn.pruned l.pruned)
