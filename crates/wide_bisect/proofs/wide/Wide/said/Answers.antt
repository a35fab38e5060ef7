use Rattle.std.proofs.{Common.{◌≡◌, ◌∙◌, ◌+◌, ◌-◌, ap, length, arith}, lemmas.List.FromFn.{map-range_with_len_more, length-map-range_with_len}}
use Rattle.wide_bisect.specs.Searches.{said_at}
use Rattle.wide_bisect.proofs.wide.Wide.said.Goals as goal

pub push-requires : goal.push-requires
push-requires c =
    let n : length c.loop-i.said.items ≡ c.loop-i.i = ap length c.loop-i.invariant.0 ∙ length-map-range_with_len (said_at c.args.self.now c.args.statuses.now) 1 c.loop-i.i in
    (omega arith, omega (arith, n, c.asks-i-end.ensures.few, c.loop-i-test.true))

pub loop-i-preserved : goal.loop-i-preserved
loop-i-preserved c =
    let more = map-range_with_len_more (said_at c.args.self.now c.args.statuses.now) 1 c.loop-i.i (c.loop-i.i + 1) (omega arith) in
    let step : c.loop-i.i + 1 - 1 ≡ c.loop-i.i = omega arith in
    (rw (more, ← c.loop-i.invariant.0, ← c.place.ensures, step) c.push.ensures.items, c.loop-i.invariant.1)
