use Rattle.std.proofs.Common.{◌≡◌, ◌<◌, ◌≤◌, ℕ, length, slice_index_or}
use Rattle.track_room.specs.Sights.{Sight, Joins}
use Rattle.track_room.proofs.passes.join_each.Given as goal

abbrev pub invariant-loop-other : goal.invariant-loop-other
invariant-loop-other l =
    (goal.iterator-loop-other).can_next l.other-iterator
    × (goal.iterator-loop-other).is_finite l.other-iterator
    × (l.i ≡ length l.yielded)
    × ((k : ℕ) (s : Sight) → k < length l.yielded → Joins (slice_index_or l.initial.passes k s) (slice_index_or l.yielded k s) (slice_index_or l.passes k s))
    × ((k : ℕ) (s : Sight) → length l.yielded ≤ k → slice_index_or l.passes k s ≡ slice_index_or l.initial.passes k s)
