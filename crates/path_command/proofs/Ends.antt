-- How a path ends, from what its parts promise.
use Rattle.std.{proofs.Common.{◌≡◌, ◌≤◌, ◌<◌, ◌^◌, ℤ, pos, ◌≤ℤ◌, FitsSigned, unsigned_abs, List, refl, subst, arith}, specs.Int.w128}
use Rattle.std.proofs.lemmas.Int.{ints, fits_signed_from_abs}
use Rattle.track_outside.specs.declared.sink.Sink as sink
use Rattle.track_outside.specs.Calls.{IsUntouched}
use Rattle.segment_model.specs.Segments.{Position}
use Rattle.penalty_path.specs.{declared.stretch.Stretch.Stretch, Paths.{IsPath, IsRange}}

-- a sink that nothing was done to
pub untouched : {O : Type 0} (g : sink.Ghosts O) (out : O) → IsUntouched g out out
untouched g out = record { taken = refl; counts = omega arith }

-- the ends of a range fit 128 bits
fits : (z : ℤ) → pos 0 ≤ℤ z → z ≤ℤ pos (10 ^ 36) → FitsSigned w128 z
fits z low high =
    let small : unsigned_abs z < 2 ^ 127 = omega (arith, ints, low, high) in
    fits_signed_from_abs w128 z small

pub low_fits : (low high : ℤ) → IsRange low high → FitsSigned w128 low
low_fits low high range =
    let rises = range.rises in
    let below = range.below in
    fits low range.above (omega (arith, ints, rises, below))

pub high_fits : (low high : ℤ) → IsRange low high → FitsSigned w128 high
high_fits low high range =
    let above = range.above in
    let rises = range.rises in
    fits high (omega (arith, ints, above, rises)) range.below

-- a path between the ends of its range, as these are read
pub path_between : (points : List Position) (made : List Stretch) (low low' high high' : ℤ) → low ≡ low' → high ≡ high' → IsPath points low high made → IsPath points low' high' made
path_between points made low low' high high' low_is high_is path =
    subst (λ (z : ℤ). IsPath points z high' made) low_is (subst (λ (z : ℤ). IsPath points low z made) high_is path)
