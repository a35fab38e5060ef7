use Rattle.std.{proofs.Common.{◌≡◌, List, ℕ, [], ◌∷◌, ◌++◌, FitsSigned, rules, refl, append_assoc, append-nil}, specs.Prelude.{codes, if◌then◌else◌}}
use Rattle.std.{specs.Int.w64, proofs.lemmas.Int.to_z-of_z}
use Rattle.request_model.specs.Lines.{line_of}
use Rattle.metric_value.specs.Values.{value_text}
use Rattle.line_text.specs.Names.{spelling}
use Rattle.reply_text.{specs.Puts.Begins, proofs.WordsBehind.{begins_behind, begins_same}, proofs.answer.put_change.Goals.{then-change, else-change}}
use Rattle.reply_text.proofs.answer.put_change.Goals as goal

-- five words, one after another
five_words : (old one two three four five new first b d e f : List ℕ) → one ≡ old ++ first → two ≡ one ++ 32 ∷ b → three ≡ two ++ 32 ∷ d → four ≡ three ++ 32 ∷ e
    → five ≡ four ++ 32 ∷ f → new ≡ five ++ 10 ∷ [] → new ≡ old ++ line_of (first ∷ b ∷ d ∷ e ∷ f ∷ [])
five_words old one two three four five new first b d e f first_is b_is d_is e_is f_is end = simp (end, f_is, e_is, d_is, b_is, first_is, append_assoc, append-nil)

pub returns : goal.returns
returns c =
    let worse : c.if-change.put_word.now ≡ (if c.args.change.now.worse then codes "regression" else codes "improvement") = elim c.if-change.branch [ then-change w ↦ rw (w.put_word-is, w.if-change.true) refl | else-change w ↦ rw (w.put_word-is, w.if-change.false) refl ] in
    let left_fits : FitsSigned w64 c.args.change.now.left = search rules in
    let right_fits : FitsSigned w64 c.args.change.now.right = search rules in
    five_words c.args.out.now.items _ _ _ _ _ _ (spelling c.args.change.now.before) (spelling c.args.change.now.after) (value_text c.args.metric.now c.args.change.now.left)
    (value_text c.args.metric.now c.args.change.now.right) (if c.args.change.now.worse then codes "regression" else codes "improvement") c.in_ok-put_name.ensures.ok c.in_ok-put_spelled.ensures
    (rw (to_z-of_z w64 c.args.change.now.left left_fits) at c.in_ok-put_worth.ensures) (rw (to_z-of_z w64 c.args.change.now.right right_fits) at c.in_ok-put_worth-2.ensures) (rw worse at c.in_ok-put_word.ensures) c.in_ok-push.ensures.items

pub returns-in_err-put_worth-2 : goal.returns-in_err-put_worth-2
returns-in_err-put_worth-2 c =
    let left : Begins c.args.out.now.items c.put_worth-2.new.out.items =
    begins_behind _ _ _ _ c.in_ok-put_name.ensures.ok (begins_behind _ _ _ _ c.in_ok-put_spelled.ensures (begins_behind _ _ _ _ c.in_ok-put_worth.ensures c.in_err-put_worth-2.ensures)) in
    search rules

pub returns-in_err-put_word : goal.returns-in_err-put_word
returns-in_err-put_word c =
    let left : Begins c.args.out.now.items c.put_word.new.out.items =
    begins_behind _ _ _ _ c.in_ok-put_name.ensures.ok (begins_behind _ _ _ _ c.in_ok-put_spelled.ensures (begins_behind _ _ _ _ c.in_ok-put_worth.ensures
    (begins_behind _ _ _ _ c.in_ok-put_worth-2.ensures c.in_err-put_word.ensures))) in
    search rules

pub returns-in_err-push : goal.returns-in_err-push
returns-in_err-push c =
    let left : Begins c.args.out.now.items c.push.new.self.items =
    begins_behind _ _ _ _ c.in_ok-put_name.ensures.ok (begins_behind _ _ _ _ c.in_ok-put_spelled.ensures (begins_behind _ _ _ _ c.in_ok-put_worth.ensures
    (begins_behind _ _ _ _ c.in_ok-put_worth-2.ensures (begins_behind _ _ _ _ c.in_ok-put_word.ensures (begins_same _ _ c.in_err-push.ensures.items))))) in
    search rules
