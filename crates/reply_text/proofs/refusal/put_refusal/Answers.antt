use Rattle.std.proofs.Common.{[], ◌∷◌, codes, append-nil}
use Rattle.request_model.specs.Lines.{spaced}
use Rattle.regression_state.specs.Moves.{word}
use Rattle.report_model.specs.Outcomes.{outcome_text}
use Rattle.reply_text.{specs.Puts.Puts, specs.Replies.at, proofs.WordsBehind.puts_more}
use Rattle.reply_text.proofs.refusal.put_refusal.Goals as goal

pub returns-in_ok-put_kind-in-IdentityClash : goal.returns-in_ok-put_kind-in-IdentityClash
returns-in_ok-put_kind-in-IdentityClash c =
    let told : Puts c.put_step.result c.put_kind-in-IdentityClash.new.out.items c.put_step.new.out.items (spaced (at c.in-IdentityClash.step ∷ [])) =
    rw append-nil c.put_step.ensures in
    rw c.in-IdentityClash.is (puts_more c.put_step.result _ _ _ (codes "E10" ∷ codes "IdentityClash" ∷ []) (at c.in-IdentityClash.step ∷ [])
    c.in_ok-put_kind-in-IdentityClash.ensures told)

pub returns-in_ok-put_kind-in-IllegalMove : goal.returns-in_ok-put_kind-in-IllegalMove
returns-in_ok-put_kind-in-IllegalMove c =
    rw c.in-IllegalMove.is (puts_more c.put_move.result _ _ _ (codes "E17" ∷ codes "IllegalMove" ∷ []) (word c.in-IllegalMove.from ∷ word c.in-IllegalMove.to ∷ [])
    c.in_ok-put_kind-in-IllegalMove.ensures c.put_move.ensures)

pub returns-in_ok-put_kind-in-JobClosed : goal.returns-in_ok-put_kind-in-JobClosed
returns-in_ok-put_kind-in-JobClosed c =
    rw c.in-JobClosed.is (puts_more c.put_outcome.result _ _ _ (codes "E25" ∷ codes "JobClosed" ∷ []) (outcome_text c.in-JobClosed.outcome ∷ [])
    c.in_ok-put_kind-in-JobClosed.ensures c.put_outcome.ensures)
