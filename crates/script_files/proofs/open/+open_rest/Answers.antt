use Rattle.std.{proofs.Common.{ℕ, List, Err, sym, subst, arith}, specs.Prelude.IfErr, specs.Borrow.Bor, proofs.lemmas.Grind.common_steps}
use Rattle.command_words.specs.Texts.{shown}
use Rattle.script_files.{specs.Opening.Asks, proofs.Asked.{asks_first, asks_then_fault, asks_none, closable_then}}
use Rattle.script_files.proofs.open.+open_rest.Goals as goal

pub returns-then-is_err-clause-fault : goal.returns-then-is_err-clause-fault
returns-then-is_err-clause-fault g t c = grind (arith, common_steps, asks_none)

pub returns-in-Err-clause-fault : goal.returns-in-Err-clause-fault
returns-in-Err-clause-fault g t c = grind (arith, common_steps, asks_first)

pub open_rest-requires-clause-closable : goal.open_rest-requires-clause-closable
open_rest-requires-clause-closable g t c κs within = grind (arith, common_steps, closable_then)

pub returns-clause-fault : goal.returns-clause-fault
returns-clause-fault g t c =
    subst (λ (l : List (Bor (List ℕ))). IfErr c.open_rest.result (λ fault. Asks g.F.Files (shown l) c.args.files.now c.open_rest.new.files (Err fault)))
    (sym c.in-Some.ensures.cases.0)
    (asks_then_fault g.F.Files c.in-Some.script.now.now (shown c.in-Some.rest.now) c.args.files.now c.open_script.new.files c.open_rest.new.files
    c.open_rest.result c.in-Ok.ensures.asks c.open_rest.ensures.fault)
