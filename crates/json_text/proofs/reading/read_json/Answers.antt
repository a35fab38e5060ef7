use Rattle.std.proofs.{Common.{inl, sym, subst, arith}, lemmas.Grind.common_steps}
use Rattle.json_text.specs.{Outcome.Outcome, Places.IsNotText, declared.reading.JsonFault.TheVariants.NotText}
use Rattle.json_text.proofs.Exact.{outcome_found, outcome_fault, only_due, place_due, same_fault}
use Rattle.json_text.proofs.reading.read_json.Goals as goal

pub returns-in-Err-clause-fault : goal.returns-in-Err-clause-fault
returns-in-Err-clause-fault c =
    let valid = c.in-Err.ensures.cases.1 in
    subst (IsNotText c.args.bytes.now) (sym c.valid_up_to.ensures) (record { short = valid.short; front = valid.front; longest = valid.longest })

pub returns-in-Err-clause-place : goal.returns-in-Err-clause-place
returns-in-Err-clause-place c =
    let valid = c.in-Err.ensures.cases.1 in
    let here : IsNotText c.args.bytes.now c.valid_up_to.result =
    subst (IsNotText c.args.bytes.now) (sym c.valid_up_to.ensures) (record { short = valid.short; front = valid.front; longest = valid.longest }) in
    λ due is. inl (same_fault c.args.bytes.now (NotText c.valid_up_to.result) due here is)

pub returns-in-Err-clause-only : goal.returns-in-Err-clause-only
returns-in-Err-clause-only c = λ tree reads. absurd (c.in-Err.ensures.cases.0 reads.utf8)

pub returns-in-Ok-clause-found : goal.returns-in-Ok-clause-found
returns-in-Ok-clause-found c = grind (arith, common_steps, outcome_found)

pub returns-in-Ok-clause-fault : goal.returns-in-Ok-clause-fault
returns-in-Ok-clause-fault c = grind (arith, common_steps, outcome_fault)

pub returns-in-Ok-clause-only : goal.returns-in-Ok-clause-only
returns-in-Ok-clause-only c =
    let bytes = c.args.bytes.now in
    let outcome : Outcome c.read_text.result bytes = subst (Outcome c.read_text.result) c.in-Ok.ensures.cases.0 c.read_text.ensures in
    only_due bytes c.read_text.result (outcome_found bytes c.read_text.result c.in-Ok.ensures.cases.1 outcome) (outcome_fault bytes c.read_text.result c.in-Ok.ensures.cases.1 outcome)

pub returns-in-Ok-clause-place : goal.returns-in-Ok-clause-place
returns-in-Ok-clause-place c =
    let bytes = c.args.bytes.now in
    let outcome : Outcome c.read_text.result bytes = subst (Outcome c.read_text.result) c.in-Ok.ensures.cases.0 c.read_text.ensures in
    place_due bytes c.read_text.result (outcome_found bytes c.read_text.result c.in-Ok.ensures.cases.1 outcome) (outcome_fault bytes c.read_text.result c.in-Ok.ensures.cases.1 outcome)
