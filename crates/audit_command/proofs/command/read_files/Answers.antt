use Rattle.std.proofs.Common.{◌≡◌, ◌∙◌, ℕ, List, sym, subst, ap}
use Rattle.command_words.specs.Texts.{shown, texts}
use Rattle.audit_model.specs.declared.heard.Heard.{Heard}
use Rattle.audit_command.{specs.Endings.{AreTexts, EndsFiles, HaveAll}, specs.Opening.names_of, proofs.Gathered.in_parts, proofs.Ends.ends_wanting}
use Rattle.audit_command.specs.declared.end.AuditEnd.TheVariants as end
use Rattle.audit_command.proofs.command.read_files.Goals as goal

pub returns-in-Ok-parted-clause-texts : goal.returns-in-Ok-parted-clause-texts
returns-in-Ok-parted-clause-texts g c =
    let told = g.F.Files.contents c.args.files.now in
    let names : texts c.deref.result.now ≡ names_of c.args.journal.now (shown c.args.scripts.now) =
    ap texts c.deref.ensures.value ∙ c.in-Ok.ensures in
    let have = subst (λ ns. HaveAll told ns c.in-Ok-texts_at.found.items) names c.in-Ok-texts_at.ensures.have in
    let parts = in_parts told c.args.journal.now (shown c.args.scripts.now) c.in-Ok-texts_at.found.items have in
    let same = c.in-Ok-parted.ensures parts.0 parts.1 parts.2 in
    subst (λ (h : List Heard). AreTexts told c.args.journal.now (shown c.args.scripts.now) c.in-Ok-parted.read.journal h) (sym same.1)
    (subst (λ (b : List ℕ). AreTexts told c.args.journal.now (shown c.args.scripts.now) b parts.1) (sym same.0) parts.3)

pub returns-clause-stop : goal.returns-clause-stop
returns-clause-stop g c =
    let names : texts c.deref.result.now ≡ names_of c.args.journal.now (shown c.args.scripts.now) =
    ap texts c.deref.ensures.value ∙ c.in-Ok.ensures in
    let ends = subst (λ ns. EndsFiles g.F.Files ns c.args.files.now c.texts_at.new.files end.Done) names c.in-Ok-texts_at.ensures.ok in
    ends_wanting g.F.Files (names_of c.args.journal.now (shown c.args.scripts.now)) c.args.files.now c.texts_at.new.files ends
