use Rattle.std.proofs.Common.{ℕ, ◌<◌, length, slice_index}
use Rattle.segment_model.specs.{Tables.MayBegin, Values.cost_between}
use Rattle.pelt_core.specs.Candidates.{AreLookedAt, IsAmong}
use Rattle.pelt_core.proofs.candidates.mark_first.Given as goal

abbrev pub invariant-loop-i : goal.invariant-loop-i
invariant-loop-i g l =
    (len : ℕ) → ((i : ℕ) → i < length l.candidates → MayBegin len (slice_index l.candidates i))
    → AreLookedAt (cost_between g.C.Cost.cost_of (g.C.Cost.positions l.cost)) len l.least (length (g.C.Cost.positions l.cost)) (IsAmong l.candidates l.i) l.fn.pruned l.pruned
