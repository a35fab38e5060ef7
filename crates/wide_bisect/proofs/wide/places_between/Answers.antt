use Rattle.std.proofs.Common.{◌≡◌, ◌+◌, ◌-◌, arith}
use Rattle.wide_bisect.proofs.Rounds.{range_more}
use Rattle.wide_bisect.proofs.wide.places_between.Goals as goal

pub loop-place-preserved : goal.loop-place-preserved
loop-place-preserved c =
    let step : c.loop-place.place + 1 - 1 ≡ c.loop-place.place - 1 + 1 = omega (arith, c.loop-place.invariant.1) in
    let at : 1 + (c.loop-place.place - 1) ≡ c.loop-place.place = omega (arith, c.loop-place.invariant.1) in
    (rw (step, range_more 1 (c.loop-place.place - 1), at, ← c.loop-place.invariant.0) c.in_ok-push.ensures.items, omega arith)
