use Rattle.std.{proofs.Common.{◌≡◌, ◌∙◌, ℕ, List, length, ap, sym, subst, inr, arith, IfNone, IfSome}, proofs.lemmas.List.length-map, specs.Borrow.Bor}
use Rattle.command_words.specs.{declared.command.Command.TheVariants.Audit, Commands.{AreNoCommand, IsSpelled}, Plans.Files, Texts.{shown, texts}}
use Rattle.tracker_top.proofs.{Audits.{is-told-of, named-ends, never-bad-audit}, AuditsDue.{bad-audit-due, ends-due, wanting-audit-due}}
use Rattle.tracker_top.proofs.auditing.audit.Goals as goal

pub audit_files-requires-clause-some : goal.audit_files-requires-clause-some
audit_files-requires-clause-some g c κs within =
    let spelled = subst (λ told. IfSome told (λ (named : Files). IsSpelled (texts c.args.words.now) (Audit named))) c.in-Some.is c.in-Ok.ensures.some in
    let some = spelled.said.1.0.some in
    let size = ap length c.scripts-scripts.ensures in
    let shown_size = length-map c.scripts-scripts.result.now (λ (text : Bor (List ℕ)). text.now) in
    omega (arith, some, size, shown_size)

pub audit_files-requires-clause-few : goal.audit_files-requires-clause-few
audit_files-requires-clause-few g c κs within =
    let spelled = subst (λ told. IfSome told (λ (named : Files). IsSpelled (texts c.args.words.now) (Audit named))) c.in-Some.is c.in-Ok.ensures.some in
    let few = spelled.said.1.0.few in
    let size = ap length c.scripts-scripts.ensures in
    let shown_size = length-map c.scripts-scripts.result.now (λ (text : Bor (List ℕ)). text.now) in
    omega (arith, few, size, shown_size)

pub returns-clause-bad_words : goal.returns-clause-bad_words
returns-clause-bad_words g c = λ bad. absurd (never-bad-audit c.audit_files.result (sym c.from-status.ensures ∙ bad))

pub returns-clause-untouched : goal.returns-clause-untouched
returns-clause-untouched g c = λ bad. absurd (never-bad-audit c.audit_files.result (sym c.from-status.ensures ∙ bad))

pub returns-clause-command : goal.returns-clause-command
returns-clause-command g c =
    let spelled = subst (λ told. IfSome told (λ (named : Files). IsSpelled (texts c.args.words.now) (Audit named))) c.in-Some.is c.in-Ok.ensures.some in
    let given : Files = record { journal = c.journal-journal.result.now; scripts = shown c.scripts-scripts.result.now } in
    let same : c.in-Some.named ≡ given = λ i. record { journal = sym c.journal-journal.ensures i; scripts = sym c.scripts-scripts.ensures i } in
    λ good. inr (
      c.in-Some.named,
      spelled,
      named-ends g.F.Files g.F.Output.Sink c.in-Some.named given c.args.files.now c.audit_files.new.files c.args.out.now c.audit_files.new.out c.audit_files.result c.from-status.result same
          c.from-status.ensures c.audit_files.ensures.files c.audit_files.ensures.audit,
    )

pub returns-in_default-clause-complete : goal.returns-in_default-clause-complete
returns-in_default-clause-complete g c =
    wanting-audit-due g.F.Files g.F.Output.Sink (texts c.args.words.now) c.args.files.now c.args.files.now c.args.out.now c.args.out.now

pub returns-in_default-told-clause-complete : goal.returns-in_default-told-clause-complete
returns-in_default-told-clause-complete g c =
    let none : AreNoCommand (texts c.args.words.now) =
    subst (λ told. IfNone told (AreNoCommand (texts c.args.words.now))) c.in_default-told.is c.in-Ok.ensures.none in
    bad-audit-due g.F.Files g.F.Output.Sink (texts c.args.words.now) c.args.files.now c.args.files.now c.args.out.now c.args.out.now none

pub returns-clause-complete : goal.returns-clause-complete
returns-clause-complete g c =
    let spelled = subst (λ told. IfSome told (λ (named : Files). IsSpelled (texts c.args.words.now) (Audit named))) c.in-Some.is c.in-Ok.ensures.some in
    let given : Files = record { journal = c.journal-journal.result.now; scripts = shown c.scripts-scripts.result.now } in
    let same : c.in-Some.named ≡ given = λ i. record { journal = sym c.journal-journal.ensures i; scripts = sym c.scripts-scripts.ensures i } in
    ends-due c.one_verdict_law.ensures.verdict c.one_verdict_law.ensures.cut_off g.F.Files g.F.Output.Sink (texts c.args.words.now) c.args.files.now c.audit_files.new.files c.args.out.now c.audit_files.new.out
    c.one_command_law.ensures c.in-Some.named spelled c.from-status.result
    (named-ends g.F.Files g.F.Output.Sink c.in-Some.named given c.args.files.now c.audit_files.new.files c.args.out.now c.audit_files.new.out c.audit_files.result c.from-status.result same
    c.from-status.ensures c.audit_files.ensures.files c.audit_files.ensures.audit)

pub returns-clause-told : goal.returns-clause-told
returns-clause-told g c =
    let spelled = subst (λ told. IfSome told (λ (named : Files). IsSpelled (texts c.args.words.now) (Audit named))) c.in-Some.is c.in-Ok.ensures.some in
    let given : Files = record { journal = c.journal-journal.result.now; scripts = shown c.scripts-scripts.result.now } in
    let same : c.in-Some.named ≡ given = λ i. record { journal = sym c.journal-journal.ensures i; scripts = sym c.scripts-scripts.ensures i } in
    λ named are. is-told-of g.F.Output.Sink named given c.args.err.now c.put_audit_status.new.err c.from-status.result c.put_audit_status.result
    (are c.in-Some.named spelled ∙ same) c.put_audit_status.ensures.ok c.put_audit_status.ensures.err
