use Rattle.std.proofs.Common.{◌≡◌, ◌≤◌, vec_capacity}
use Rattle.pelt_core.specs.Candidates.{open_places}
use Rattle.pelt_core.proofs.candidates.refill.Given as goal

abbrev pub invariant-loop-place : goal.invariant-loop-place
invariant-loop-place l =
    (l.candidates.items ≡ open_places l.len l.g l.pruned l.place) × (vec_capacity l.fn.candidates ≤ vec_capacity l.candidates)
