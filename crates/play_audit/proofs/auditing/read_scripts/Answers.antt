use Rattle.std.{proofs.Common.{◌≡◌, ◌+◌, ℕ, List, [], ◌∷◌, ◌++◌, Some, Err, not, true, refl, sym, ap, subst, ◌∙◌, arith}, specs.Prelude.slice_get}
use Rattle.std.{specs.Result.is_ok, proofs.lemmas.Grind.common_steps}
use Rattle.request_reader.specs.Scripts.{IsScript, cut_off, end}
use Rattle.audit_model.specs.Verdicts.{IsCutOff}
use Rattle.play_audit.specs.declared.items.ItemsFault.TheVariants as fault
use Rattle.play_audit.proofs.{Listed.read_at, Scripts.{HaveRead, all_read, first_cut, next_read, none_cut, none_read}}
use Rattle.play_audit.proofs.auditing.read_scripts.Goals as goal
use Rattle.play_audit.proofs.auditing.read_scripts.Goals.{After-one-item}

pub loop-one-init : goal.loop-one-init
loop-one-init c = (subst (HaveRead c.args.heard.now 0) (sym c.new-asked.ensures.items) (none_read c.args.heard.now), refl)

here : (c : After-one-item) → slice_get c.args.heard.now c.loop-one.one-index ≡ Some c.one-item.result
here c = read_at c.args.heard.now c.loop-one.one-index c.one-item.result c.loop-one-test.true c.one-item.is

pub overflow_add-script : goal.overflow_add-script
overflow_add-script c = omega (arith, c.loop-one.invariant.1, c.loop-one-test.true, c.requires.few)

pub returns-in-Err-CutOff-clause-cut : goal.returns-in-Err-CutOff-clause-cut
returns-in-Err-CutOff-clause-cut c = λ script offset is.
    let fails : c.items_of.result ≡ Err (fault.CutOff c.in-Err-CutOff.offset) = c.in-Err-CutOff.is ∙ ap Err c.in-Err-CutOff.field-0-is in
    let cut = c.items_of.ensures.cut c.in-Err-CutOff.offset fails in
    let heard = (goal.at.returns-in-Err-CutOff-clause-cut c).After-one-item in
    let one : c.loop-one.script + 1 ≡ script = cc in
    let two : c.in-Err-CutOff.offset ≡ offset = sym c.in-Err-CutOff.offset-is ∙ cc in
    let at : c.loop-one.one-index + 1 ≡ script = ap (λ (k : ℕ). k + 1) (sym c.loop-one.invariant.1) ∙ one in
    let is-cut : IsCutOff c.args.heard.now (c.loop-one.one-index + 1) c.in-Err-CutOff.offset =
    first_cut c.reading_law.ensures.one c.args.heard.now c.loop-one.one-index c.loop-one.asked.items c.one-item.result cut.0 c.in-Err-CutOff.offset c.loop-one.invariant.0 (here heard)
    (subst (λ (b : List ℕ). IsScript b cut.0 (cut_off c.in-Err-CutOff.offset)) c.as_slice.ensures cut.1) in
    subst (λ (k : ℕ). IsCutOff c.args.heard.now k offset) at (subst (IsCutOff c.args.heard.now (c.loop-one.one-index + 1)) two is-cut)

pub loop-one-preserved : goal.loop-one-preserved
loop-one-preserved c =
    let heard = (goal.at.loop-one-preserved c).After-one-item in
    let pushed : is_ok c.push.result ≡ true = c.is_err.ensures.negation ∙ ap not c.if-is_err.false in
    let grown : c.push.new.self.items ≡ c.loop-one.asked.items ++ c.in-Ok.items ∷ [] = rw pushed at c.push.ensures.items in
    let reads : IsScript c.one-item.result.script c.in-Ok.items.items end = subst (λ (b : List ℕ). IsScript b c.in-Ok.items.items end) c.as_slice.ensures c.in-Ok.ensures.read in (
      subst (HaveRead c.args.heard.now (c.loop-one.one-index + 1)) (sym grown)
          (next_read c.args.heard.now c.loop-one.one-index c.loop-one.asked.items c.one-item.result c.in-Ok.items c.loop-one.invariant.0 (here heard) reads),
      ap (λ (k : ℕ). k + 1) c.loop-one.invariant.1,
    )

pub returns-clause-read : goal.returns-clause-read
returns-clause-read c = all_read c.args.heard.now c.loop-one.one-index c.loop-one.asked.items c.loop-one.invariant.0 (omega (arith, c.loop-one.auto.one-index-end, c.loop-one-test.false))

pub returns-clause-whole : goal.returns-clause-whole
returns-clause-whole c = grind (arith, common_steps, none_cut, all_read)
