use Rattle.std.proofs.Common.{rules, ◌≡◌, ℕ, List, ◌∷◌, refl, sym, ap, ◌∙◌, arith}
use Rattle.line_text.specs.Lines.{words_of}
use Rattle.request_words.{specs.Forms.{of_number, number_verb, IsOfForm}, proofs.HeadLines.{unnamed_head, named_head, wide_head, formless_head, number_form}}
use Rattle.request_words.proofs.{FormWords.behind, head.number_head.Goals.In-Some}
use Rattle.request_words.proofs.head.number_head.Goals as goal

-- the line is of the form
of_form : (c : In-Some) (line : List ℕ) → words_of line ≡ number_verb c.args.asked ∷ c.args.words → IsOfForm line (of_number c.args.asked c.in-Some.m.now c.in-Some.t.now c.in-Some.x.now c.in-Some.number)
of_form c line verb = record { words = verb ∙ ap (λ xs. number_verb c.args.asked ∷ xs) c.in-Some.ensures.some; numbers = (search rules, tt); amounts = tt; status = tt }

pub returns-in_default : goal.returns-in_default
returns-in_default c line verb = rw c.formless.ensures (formless_head line (λ form of_form.
    let has = number_form c.args.asked form verb of_form in
    c.in_default.ensures.none _ _ _ _ has.numbers.0 (behind (sym verb ∙ has.words))))

pub returns : goal.returns
returns c line verb =
    let named = rw c.in-Some-2.is at c.in_ok-machine.ensures.some in rw (c.number_request.ensures, named.0, named.1, named.2) (named_head line _ 0 _ (of_form (goal.at.returns c).In-Some line verb) (c.is_number_of.ensures.0 c.if-not-is_number_of.false) tt refl (omega arith) (rw c.in-Some-2.is at c.in_ok-machine.ensures.told) (λ body item told. told))

pub returns-then-not-is_number_of : goal.returns-then-not-is_number_of
returns-then-not-is_number_of c line verb = wide_head line _ 0 (of_form (goal.at.returns-then-not-is_number_of c).In-Some line verb) refl (omega arith) (rw c.in-Some-2.is at c.in_ok-machine.ensures.told) (search rules)

pub returns-in_default-2 : goal.returns-in_default-2
returns-in_default-2 c line verb = rw c.unnamed.ensures (unnamed_head line _ 0 (of_form (goal.at.returns-in_default-2 c).In-Some line verb) refl (omega arith) c.in_default-2.is c.in_ok-machine.ensures.told)
