use Rattle.std.{proofs.Common.{◌≡◌, ◌↔◌, List, Err, sym, subst}, specs.Prelude.{Contains, IsTrue, Result}}
use Rattle.script_loop.specs.declared.stop.Stop.{Stop}
use Rattle.script_loop.specs.declared.stop.Stop.TheVariants as script
use Rattle.shared_run.proofs.Stopped.{found_behind}
use Rattle.shared_run.proofs.stop.+wants_memory.Goals as goal

pub returns : goal.returns
returns t c =
    let differs : c.in-Some.first.now ≡ Err script.NoMemory → ⊥ = λ same. let bad = c.if-is_memory.ensures.1 same in absurd (cc) in
    subst (λ (l : List (Result (Unit {0}) Stop)). IsTrue c.wants_memory.result ↔ Contains l (Err script.NoMemory)) (sym c.in-Some.ensures.cases.0)
    (found_behind c.in-Some.first.now (Err script.NoMemory) c.in-Some.rest.now differs c.wants_memory.result c.wants_memory.ensures)
