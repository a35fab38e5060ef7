use Rattle.std.proofs.{Common.{◌≡◌, refl, ap, sym, ◌∙◌, arith}, lemmas.Slice.Eq.bytes_eq-Decides, lemmas.Grind.common_steps}
use Rattle.track_entry.specs.Texts.{entry_text}
use Rattle.journal_walk.proofs.same.is_same_entry.Goals as goal

pub returns : goal.returns
returns c one other =
    let first : c.as_slice.result.now ≡ entry_text c.args.one.now = grind (arith, common_steps) in
    let second : c.as_slice-2.result.now ≡ entry_text c.args.other.now = grind (arith, common_steps) in
    let decides = bytes_eq-Decides c.as_slice.result.now c.as_slice-2.result.now in (
      λ same.
          let texts : c.as_slice.result.now ≡ c.as_slice-2.result.now = decides.0 (sym c.eq.ensures ∙ same) in
          c.entries_law.ensures (entry_text c.args.one.now) c.args.one.now c.args.other.now (one, refl) (other, sym first ∙ texts ∙ second),
      λ same. c.eq.ensures ∙ decides.1 (first ∙ ap entry_text same ∙ sym second),
    )
