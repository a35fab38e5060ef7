use Rattle.std.{proofs.Common.{ap, sym, ◌∙◌}, specs.Prelude.option_copied}
use Rattle.history_model.specs.Commits.{has_number}
use Rattle.order_index.proofs.{Places.placed-none, Lookups.found-at-place}
use Rattle.order_index.proofs.mapped.with_number.Goals as goal

pub returns-then-is_above_all : goal.returns-then-is_above_all
returns-then-is_above_all c =
    sym (placed-none (has_number c.args.number) 0 c.args.commits.now (sym (c.requires c.args.number) ∙ c.is_above_all.ensures c.if-is_above_all.true))

pub returns-in_err-place : goal.returns-in_err-place
returns-in_err-place c =
    ap option_copied c.from_residual.ensures
    ∙ sym (placed-none (has_number c.args.number) 0 c.args.commits.now (sym (c.in_err-place.ensures.value ∙ c.requires c.args.number)))

pub returns : goal.returns
returns c = c.declaration_at.ensures ∙ found-at-place c.args.commits.now c.args.number c.in_ok-place.place.now (sym (c.in_ok-place.ensures.value ∙ c.requires c.args.number))
