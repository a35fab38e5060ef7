use Rattle.std.proofs.Common.{arith}
use Rattle.request_reader.proofs.Looks.{feed_shows, late_feed, short_look, long_look}
use Rattle.request_reader.proofs.line.look_at.Goals as goal

pub returns-then-count-le-LINE_LIMIT : goal.returns-then-count-le-LINE_LIMIT
returns-then-count-le-LINE_LIMIT c = feed_shows _ _ c.in-Some.ensures (omega (arith, c.if-count-le-LINE_LIMIT.true))

pub returns-in-Some : goal.returns-in-Some
returns-in-Some c = late_feed _ _ c.in-Some.ensures (omega (arith, c.if-count-le-LINE_LIMIT.false))

pub returns-then-bytes-le-LINE_LIMIT : goal.returns-then-bytes-le-LINE_LIMIT
returns-then-bytes-le-LINE_LIMIT c = short_look _ c.in_default.ensures (omega (arith, c.if-bytes-le-LINE_LIMIT.true))

pub returns : goal.returns
returns c = long_look _ c.in_default.ensures (omega (arith, c.if-bytes-le-LINE_LIMIT.false))
