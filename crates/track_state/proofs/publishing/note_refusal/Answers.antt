use Rattle.std.{proofs.Common.{◌≡◌, ℕ, cond, List, sym, subst, arith}, specs.Prelude.nat_lt, specs.Ordering.is_eq, proofs.lemmas.Grind.common_steps}
use Rattle.history_model.specs.{declared.entries.Entry.Entry, Entries.entries_of}
use Rattle.touch_index.specs.{Marks.{key_cmp, mark_of, with_claim}, declared.key.SeriesKey.SeriesKey, declared.mark.Claim.Claim}
use Rattle.track_state.{specs.Covering.Covers, specs.Work.series_of, proofs.Handed.{refused-claims, refused-covers}}
use Rattle.track_state.proofs.publishing.note_refusal.Goals as goal

pub returns-clause-covers : goal.returns-clause-covers
returns-clause-covers c =
    let h : List Entry = entries_of c.args.track.now.history in
    let key : SeriesKey = c.args.key.now in
    let claimed = subst (λ (claim : Claim). (q : SeriesKey) → mark_of q c.set_claim.new.self ≡ cond (is_eq (key_cmp key q)) (with_claim claim (mark_of key c.marked.new.touched)) (mark_of q c.marked.new.touched))
    c.claim_refused.ensures c.set_claim.ensures in
    subst (λ (n : ℕ). Covers h n c.set_claim.new.self) (sym c.in_ok-catch_up.ensures.all)
    (refused-covers h c.marked.new.touched c.set_claim.new.self c.marked.ensures.covers key c.args.version c.in_ok-step.step c.in_ok-step.ensures.mark c.requires.latest claimed)

pub returns-clause-refused : goal.returns-clause-refused
returns-clause-refused c t = grind (arith, common_steps, cond, is_eq, nat_lt, series_of, refused-claims)
