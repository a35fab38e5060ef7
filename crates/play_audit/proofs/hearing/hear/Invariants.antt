use Rattle.std.proofs.Common.{◌≡◌, length}
use Rattle.play_audit.{specs.Marks.rows_of, proofs.Going.HasGone}
use Rattle.play_audit.proofs.hearing.hear.Given as goal

abbrev pub invariant-loop-item : goal.invariant-loop-item
invariant-loop-item l =
    (goal.iterator-loop-item).can_next l.item-iterator
    × (goal.iterator-loop-item).is_finite l.item-iterator
    × (l.request ≡ length l.yielded)
    × HasGone l.journals l.script l.fn.items.items l.transcript (length l.yielded) l.at l.places.items (rows_of l.fn.marks.items) (rows_of l.marks.items)
