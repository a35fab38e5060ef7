use Rattle.std.{proofs.Common.{◌≡◌, ℕ, ◌+◌, List, drop, length}, specs.Map.lookup}
use Rattle.series_index.specs.{Listed.at_place, Seen.is_same}
use Rattle.series_index.proofs.series.SeriesIndex.in_order.Given as goal

-- those of the tests from the end on that are done
abbrev pub invariant-loop-done : goal.invariant-loop-done
invariant-loop-done l = (k : ℕ) → k + l.done ≡ length l.self → (t : List ℕ) → at_place l.self (lookup (λ (n : List ℕ). is_same t n) l.order.entries) ≡ lookup (λ (n : List ℕ). is_same t n) (drop k l.self)
