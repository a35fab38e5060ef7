use Rattle.std.proofs.Common.{◌≡◌, ℕ, ◌<◌, length, slice_index, get_or}
use Rattle.segment_model.specs.Cuts.{place_before, place_behind}
use Rattle.metric_table.specs.Table.{row_of}
use Rattle.change_list.specs.{declared.change.Change.Change, Changes.IsChange}
use Rattle.change_list.proofs.made.changes.Given as goal

abbrev pub invariant-loop-i : goal.invariant-loop-i
invariant-loop-i l =
    (length l.made ≡ l.i)
    × ((k : ℕ) → k < l.i → (d : Change)
    → IsChange l.done.points (row_of l.done.metric).larger_is_better
    (place_before l.cuts k) (slice_index l.cuts k) (place_behind l.cuts (length l.done.points) k) (get_or l.made k d))
