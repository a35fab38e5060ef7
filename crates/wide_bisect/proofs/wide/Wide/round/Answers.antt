use Rattle.std.proofs.{Common.{◌+◌, arith}, lemmas.List.FromFn.map-range_with_len_more}
use Rattle.wide_bisect.specs.Searches.{place_in_round}
use Rattle.wide_bisect.proofs.wide.Wide.round.Goals as goal

pub loop-i-preserved : goal.loop-i-preserved
loop-i-preserved c =
    let more = map-range_with_len_more (place_in_round c.args.self.now) 1 c.loop-i.i (c.loop-i.i + 1) (omega arith) in
    (rw (more, ← c.loop-i.invariant.0, ← c.place.ensures) c.in_ok-push.ensures.items, c.loop-i.invariant.1)
