use Rattle.std.{proofs.Common.{◌≡◌, ℕ, ◌<◌, length}, specs.Prelude.slice_index}
use Rattle.series_noise.specs.Noise.{IsDistance}
use Rattle.series_noise.proofs.distances_of.Given as goal

abbrev pub invariant-loop-i : goal.invariant-loop-i
invariant-loop-i l =
    (length l.made.items ≡ l.i) × ((k : ℕ) → k < l.i → IsDistance l.points k (slice_index l.made.items k))
