use Rattle.std.proofs.Common.{ℕ, ◌-◌, ◌<◌, ◌≤◌, true, get_or, length}
use Rattle.go_bench_text.proofs.fields.front_count.Given as goal

abbrev pub invariant-loop-count : goal.invariant-loop-count
invariant-loop-count g l = record { within : l.count ≤ length l.bytes; each : (k : ℕ) → k < l.count → g.F.Fn.post l.is_of (get_or l.bytes k 0, tt) true }

abbrev pub decreases-loop-count : goal.decreases-loop-count
decreases-loop-count g l = length l.bytes - l.count
