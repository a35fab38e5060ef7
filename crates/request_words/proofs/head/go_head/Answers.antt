use Rattle.std.proofs.Common.{rules, ◌≡◌, ℕ, List, ◌∷◌, codes, refl, sym, ap, ◌∙◌}
use Rattle.line_text.specs.Lines.{words_of}
use Rattle.request_words.{specs.Forms.{submit_go, IsOfForm}, proofs.HeadLines.{unnamed_head, named_head, long_head, formless_behind}, proofs.FormWords.behind}
use Rattle.request_words.proofs.head.go_head.Goals.{In-Some}
use Rattle.request_words.proofs.head.go_head.Goals as goal

-- the line is of the form
of_form : (c : In-Some) (line : List ℕ) → words_of line ≡ codes "submit" ∷ codes "go" ∷ c.args.words → IsOfForm line (submit_go c.in-Some.m.now c.in-Some.c.now c.in-Some.r.now c.in-Some.len)
of_form c line verb = record { words = verb ∙ ap (λ xs. codes "submit" ∷ codes "go" ∷ xs) c.in-Some.ensures.some; numbers = (search rules, tt); amounts = tt; status = tt }

pub returns-in_default : goal.returns-in_default
returns-in_default c line verb = rw c.formless.ensures (formless_behind verb (λ of_form. c.in_default.ensures.none _ _ _ _ of_form.numbers.0 (behind (behind (sym verb ∙ of_form.words)))))

pub returns : goal.returns
returns c line verb =
    let named = rw c.in-Some-2.is at c.in_ok-machine.ensures.some in rw (named.0, named.1, named.2) (c.if-len-gt-BODY_LIMIT.false, named_head line _ c.in-Some.len _ (of_form (goal.at.returns c).In-Some line verb) tt tt refl c.if-len-gt-BODY_LIMIT.false (rw c.in-Some-2.is at c.in_ok-machine.ensures.told) (λ body item told. told))

pub returns-then-len-gt-BODY_LIMIT : goal.returns-then-len-gt-BODY_LIMIT
returns-then-len-gt-BODY_LIMIT c line verb = long_head line _ c.in-Some.len (of_form (goal.at.returns-then-len-gt-BODY_LIMIT c).In-Some line verb) refl c.if-len-gt-BODY_LIMIT.true

pub returns-in_default-2 : goal.returns-in_default-2
returns-in_default-2 c line verb = rw c.unnamed.ensures (unnamed_head line _ c.in-Some.len (of_form (goal.at.returns-in_default-2 c).In-Some line verb) refl c.if-len-gt-BODY_LIMIT.false c.in_default-2.is c.in_ok-machine.ensures.told)
