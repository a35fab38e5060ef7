use Rattle.std.proofs.Common.{ℕ, ◌+◌, ◌*◌, ◌-◌, ◌≤◌, length, reverse, unsigned_abs, ◌-ℤ◌}
use Rattle.penalty_path.{specs.Paths.IsPath, specs.Growing.stretches_of, proofs.Ahead.Ahead, proofs.Room.Room}
use Rattle.penalty_path.proofs.found.counted_path.Given as goal

abbrev pub invariant-loop-next : goal.invariant-loop-next
invariant-loop-next l = record {
  path : IsPath l.points l.low l.grown.current.to (stretches_of l.grown);
  ahead : Ahead l.points l.grown.current.to l.high (reverse l.ahead.items);
  room : (room : ℕ) × Room l.points l.grown.current.last (reverse l.ahead.items) room × (l.tables ≤ 3 * length (stretches_of l.grown) + room);
}

abbrev pub decreases-loop-next : goal.decreases-loop-next
decreases-loop-next l = 2 * unsigned_abs (l.high -ℤ l.grown.current.to) - length l.ahead.items
