use Rattle.std.proofs.Common.{◌≡◌, ℕ, ◌<◌, ◌≤◌, slice_index}
use Rattle.segment_model.specs.Tables.{IsUnmarkedBehind}
use Rattle.pelt_core.proofs.candidates.unmark.Given as goal

abbrev pub invariant-loop-i : goal.invariant-loop-i
invariant-loop-i l =
    ((s : ℕ) → s < l.i → IsUnmarkedBehind l.k (slice_index l.fn.pruned s) (slice_index l.pruned s))
    × ((s : ℕ) → l.i ≤ s → slice_index l.pruned s ≡ slice_index l.fn.pruned s)
