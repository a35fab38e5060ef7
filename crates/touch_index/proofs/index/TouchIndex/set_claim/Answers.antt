use Rattle.std.{proofs.Common.{◌≡◌, cond, ap, sym, ◌∙◌, inl, inr, Option, None}, specs.Ordering.is_eq}
use Rattle.std.{specs.Option.option_copied_mut, proofs.lemmas.Bool.cases_Bool}
use Rattle.touch_index.specs.{Marks.{Entries, key_cmp, mark_of, with_claim}, declared.key.SeriesKey.SeriesKey, declared.mark.Mark.Mark}
use Rattle.touch_index.proofs.Keys.{same-key}
use Rattle.touch_index.proofs.index.TouchIndex.set_claim.Goals as goal

pub returns-in-Some : goal.returns-in-Some
returns-in-Some c q =
    let key : SeriesKey = c.args.key.now in
    let w : Mark = record { touched = c.in-Some.mark.now.touched; claim = c.args.claim } in
    c.get_mut.follows.holds w c.in-Some.mark.now c.in-Some.ensures.value q
    ∙ ap (λ (o : Option Mark). cond (is_eq (key_cmp key q)) (with_claim c.args.claim o) (mark_of q c.self.inside.0)) c.in-Some.ensures.value
    ∙ ap (λ (es : Entries). cond (is_eq (key_cmp key q)) (with_claim c.args.claim (mark_of key es)) (mark_of q es)) c.self.view_is

pub returns : goal.returns
returns c q =
    let key : SeriesKey = c.args.key.now in
    let es : Entries = c.self.inside.0 in
    let none : mark_of key es ≡ None = sym c.get_mut.ensures.value ∙ ap option_copied_mut c.in_default.is in
    let stays : mark_of q es ≡ cond (is_eq (key_cmp key q)) (with_claim c.args.claim (mark_of key es)) (mark_of q es) =
    elim (cases_Bool (is_eq (key_cmp key q))) [
      | inl same ↦
          ap (λ (k : SeriesKey). mark_of k es) (sym (same-key key q same)) ∙ none ∙ sym (ap (with_claim c.args.claim) none)
          ∙ sym (ap (λ b. cond b (with_claim c.args.claim (mark_of key es)) (mark_of q es)) same)
      | inr other ↦ sym (ap (λ b. cond b (with_claim c.args.claim (mark_of key es)) (mark_of q es)) other)
    ] in
    ap (mark_of q) c.get_mut.follows.holds-at-none
    ∙ stays
    ∙ ap (λ (es : Entries). cond (is_eq (key_cmp key q)) (with_claim c.args.claim (mark_of key es)) (mark_of q es)) c.self.view_is
