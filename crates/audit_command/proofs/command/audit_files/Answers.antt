use Rattle.std.{proofs.Common.{◌≤◌, ◌^◌, List, length, sym, subst}, specs.Prelude.All}
use Rattle.command_words.specs.Texts.{shown}
use Rattle.audit_model.specs.declared.heard.Heard.{Heard}
use Rattle.audit_command.{specs.Opening.names_of, proofs.Gathered.short_scripts, proofs.Ends.ends_told}
use Rattle.audit_command.proofs.command.audit_files.Goals as goal

pub tell-requires-clause-short : goal.tell-requires-clause-short
tell-requires-clause-short g c =
    subst (λ (h : List Heard). All (λ (x : Heard). length x.script ≤ 2 ^ 30) h) (sym c.deref.ensures.value)
    (short_scripts (g.F.Files.contents c.args.files.now) c.args.journal.now (shown c.args.scripts.now) c.in-Ok.read.journal c.in-Ok.read.heard.items c.in-Ok.ensures.texts)

pub returns-in-Ok-clause-files : goal.returns-in-Ok-clause-files
returns-in-Ok-clause-files g c =
    ends_told g.F.Files (names_of c.args.journal.now (shown c.args.scripts.now)) c.args.files.now c.read_files.new.files
    g.F.Output.Sink c.as_slice.result.now c.deref.result.now c.args.out.now c.tell.new.out c.tell.result c.in-Ok.ensures.ok c.tell.ensures
