use Rattle.std.proofs.lemmas.Grind.{common_steps}
use Rattle.std.{proofs.Common.{[], ◌∷◌, FitsSigned, decimal, subst, sym, ◌∙◌, arith}, specs.Int.w128, proofs.lemmas.Int.to_z-of_z, specs.Fmt.signed_decimal}
use Rattle.track_entry.proofs.{Same.same_tune, Readers.kept_err}
use Rattle.track_entry.proofs.read.read_tune.Goals as goal

pub returns-in_err-metric : goal.returns-in_err-metric
returns-in_err-metric c metric penalty len is are =
    kept_err c.in_err-metric.field-0.0 c.from_residual.result _ _ c.from_residual.ensures (c.in_err-metric.ensures.reads metric (signed_decimal penalty ∷ decimal len ∷ []) is.0 are)

pub returns-in_err-penalty : goal.returns-in_err-penalty
returns-in_err-penalty c metric penalty len is are =
    let name = c.in_ok-metric.ensures.reads metric (signed_decimal penalty ∷ decimal len ∷ []) is.0 are in
    kept_err c.in_err-penalty.field-0.0 c.from_residual-in_err-penalty.result _ _ c.from_residual-in_err-penalty.ensures (c.in_err-penalty.ensures.reads penalty (decimal len ∷ []) is.2 name.1)

pub returns-in_err-least : goal.returns-in_err-least
returns-in_err-least c metric penalty len is are =
    let name = c.in_ok-metric.ensures.reads metric (signed_decimal penalty ∷ decimal len ∷ []) is.0 are in
    let value = c.in_ok-penalty.ensures.reads penalty (decimal len ∷ []) is.2 name.1 in
    kept_err c.in_err-least.field-0.0 c.from_residual-in_err-least.result _ _ c.from_residual-in_err-least.ensures (c.in_err-least.ensures.reads len [] is.3 value.1)

pub returns-in_err-end_at : goal.returns-in_err-end_at
returns-in_err-end_at c metric penalty len is are = grind (arith, common_steps)

pub returns : goal.returns
returns c metric penalty len is are =
    let name = c.in_ok-metric.ensures.reads metric (signed_decimal penalty ∷ decimal len ∷ []) is.0 are in
    let value = c.in_ok-penalty.ensures.reads penalty (decimal len ∷ []) is.2 name.1 in
    let fits : FitsSigned w128 c.in_ok-penalty.penalty = subst (FitsSigned w128) (sym value.0) is.2 in
    same_tune name.0 (c.in_ok-penalty-2.ensures ∙ to_z-of_z w128 c.in_ok-penalty.penalty fits ∙ value.0) (c.in_ok-least.ensures.reads len [] is.3 value.1).0
