use Rattle.std.proofs.Common.{sym, subst, ◌<◌, arith}
use Rattle.fixed_value.proofs.Powers.{ten_some, ten_fits, below_half, rounded_down, rounded_up, rest_fits}
use Rattle.fixed_value.proofs.scaled.rounded.Goals as goal

pub returns-then-places-gt38 : goal.returns-then-places-gt38
returns-then-places-gt38 c = below_half c.args.digits c.args.places (omega arith) c.if-places-gt38.true

pub pow-unit-requires : goal.pow-unit-requires
pow-unit-requires c = ten_fits c.args.places c.if-places-gt38.false

pub nonzero_div-above : goal.nonzero_div-above
nonzero_div-above c = subst (λ unit. 0 < unit) (sym c.pow-unit.ensures) (ten_some c.args.places)

pub nonzero_rem-doubled : goal.nonzero_rem-doubled
nonzero_rem-doubled c = subst (λ unit. 0 < unit) (sym c.pow-unit.ensures) (ten_some c.args.places)

pub overflow_mul-doubled : goal.overflow_mul-doubled
overflow_mul-doubled c = omega (arith, rest_fits c.args.digits c.args.places c.pow-unit.result c.pow-unit.ensures c.if-places-gt38.false)

pub returns-then-doubled-unit : goal.returns-then-doubled-unit
returns-then-doubled-unit c = rounded_down c.args.digits c.args.places c.pow-unit.result c.pow-unit.ensures c.if-doubled-unit.true

pub returns-else-doubled-unit : goal.returns-else-doubled-unit
returns-else-doubled-unit c = rounded_up c.args.digits c.args.places c.pow-unit.result c.pow-unit.ensures c.if-doubled-unit.false
