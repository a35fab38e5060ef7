use Rattle.std.proofs.lemmas.Grind.{common_steps}
use Rattle.std.{proofs.Common.{◌≡◌, ◌++◌, codes, Result, Err, subst, sym, ◌∙◌, List, ℕ, arith}, specs.Prelude.{IsErr, IsErrAnd}}
use Rattle.track_entry.specs.{declared.fault.EntryFault.EntryFault, declared.fault.EntryFault.TheVariants.NotEntry, Texts.SpellsEntry}
use Rattle.track_entry.proofs.OlderTexts.{spells-longer, spells-shorter, of-v1}
use Rattle.track_entry.proofs.versions.read_entry_v1_with.Goals as goal

pub returns-then-not-is_of_v1-clause-none : goal.returns-then-not-is_of_v1-clause-none
returns-then-not-is_of_v1-clause-none c given e spells =
    let text : c.as_slice.result.now ≡ c.args.text.now ++ codes " 1" = c.as_slice.ensures.value ∙ c.in_ok-longer.ensures in
    of-v1 c.entries_law.ensures c.args.text.now c.in_ok-entry.entry e (c.begins_setting.ensures.yes c.if-not-begins_setting.false)
    (subst (λ (t : List ℕ). SpellsEntry t c.in_ok-entry.entry) text c.in_ok-entry.ensures.spelt) (c.is_of_v1.ensures.no c.if-not-is_of_v1.true) spells

pub returns-clause-spelt : goal.returns-clause-spelt
returns-clause-spelt c = grind (arith, common_steps, codes, spells-shorter)

fault-of : {B : Type 0} (e : EntryFault) (r : Result B EntryFault) → IsErr r × IsErrAnd r (λ made. made ≡ e) → r ≡ Err NotEntry → e ≡ NotEntry
fault-of e r is given = sym (subst (λ x. IsErrAnd x (λ made. made ≡ e)) given is.1)

pub returns-in_err-entry-clause-none : goal.returns-in_err-entry-clause-none
returns-in_err-entry-clause-none c given e spells = grind (arith, common_steps, codes, fault-of, spells-longer)
