use Rattle.std.proofs.Common.{sym, subst, ◌<◌, arith}
use Rattle.fixed_value.proofs.{Powers.ten_some, Places.past_places}
use Rattle.fixed_value.proofs.fixed.without_places.Goals as goal

pub nonzero_div-result : goal.nonzero_div-result
nonzero_div-result c = subst (λ unit. 0 < unit) (sym c.pow.ensures) (ten_some c.from.result)

pub returns-then-places-gt19 : goal.returns-then-places-gt19
returns-then-places-gt19 c = past_places c.args.n c.args.places (omega arith) c.if-places-gt19.true
