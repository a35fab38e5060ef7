use Rattle.std.{proofs.Common.{ℕ, List, [], ◌∷◌, Ok, Err, sym, subst}, specs.Prelude.{IfErr, string_bytes}}
use Rattle.command_words.specs.Texts.{texts}
use Rattle.audit_command.{specs.Opening.Asks, proofs.Asked.{asks_first, asks_then_stop}}
use Rattle.audit_command.proofs.files.+open_all.Goals as goal

pub returns-in-Err-clause-stop : goal.returns-in-Err-clause-stop
returns-in-Err-clause-stop g t c =
    let asks = subst (λ (name : List ℕ). Asks g.F.Files (name ∷ []) c.args.files.now c.open_one.new.files (Err c.in-Err.stop)) c.as_str.ensures.value c.in-Err.ensures.stop in
    subst (λ names. Asks g.F.Files (texts names) c.args.files.now c.open_one.new.files (Err c.in-Err.stop)) (sym c.in-Some.ensures.cases.0)
    (asks_first g.F.Files (string_bytes c.in-Some.name.now) (texts c.in-Some.rest.now) c.args.files.now c.open_one.new.files c.in-Err.stop asks)

pub returns-clause-stop : goal.returns-clause-stop
returns-clause-stop g t c =
    let asks = subst (λ (name : List ℕ). Asks g.F.Files (name ∷ []) c.args.files.now c.open_one.new.files (Ok tt)) c.as_str.ensures.value c.in-Ok.ensures.asks in
    subst (λ names. IfErr c.open_all.result (λ stop. Asks g.F.Files (texts names) c.args.files.now c.open_all.new.files (Err stop))) (sym c.in-Some.ensures.cases.0)
    (asks_then_stop g.F.Files (string_bytes c.in-Some.name.now) (texts c.in-Some.rest.now) c.args.files.now c.open_one.new.files c.open_all.new.files
    c.open_all.result c.in-Ok.ensures.kept.reads asks c.open_all.ensures.stop)
