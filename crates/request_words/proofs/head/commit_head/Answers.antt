use Rattle.std.proofs.Common.{rules, ◌≡◌, ℕ, List, ◌∷◌, codes, refl, sym, ap, ◌∙◌, arith}
use Rattle.line_text.specs.Lines.{words_of}
use Rattle.request_words.{specs.Forms.{commit, IsOfForm}, proofs.HeadLines.{unnamed_head, named_head, formless_behind}, proofs.FormWords.behind}
use Rattle.request_words.proofs.head.commit_head.Goals.{In-Some}
use Rattle.request_words.proofs.head.commit_head.Goals as goal

-- the line is of the form
of_form : (c : In-Some) (line : List ℕ) → words_of line ≡ codes "commit" ∷ c.args.words → IsOfForm line (commit c.in-Some.m.now c.in-Some.number c.in-Some.n.now)
of_form c line verb = record { words = verb ∙ ap (λ xs. codes "commit" ∷ xs) c.in-Some.ensures.some; numbers = (search rules, tt); amounts = tt; status = tt }

pub returns-in_default : goal.returns-in_default
returns-in_default c line verb = rw c.formless.ensures (formless_behind verb (λ of_form. c.in_default.ensures.none _ _ _ of_form.numbers.0 (behind (sym verb ∙ of_form.words))))

pub returns : goal.returns
returns c line verb =
    let named = rw c.in-Some-2.is at c.in_ok-machine.ensures.some in rw (named.0, named.1) (named_head line _ 0 _ (of_form (goal.at.returns c).In-Some line verb) tt tt refl (omega arith) (rw c.in-Some-2.is at c.in_ok-machine.ensures.told) (λ body item told. told))

pub returns-in_default-2 : goal.returns-in_default-2
returns-in_default-2 c line verb = rw c.unnamed.ensures (unnamed_head line _ 0 (of_form (goal.at.returns-in_default-2 c).In-Some line verb) refl (omega arith) c.in_default-2.is c.in_ok-machine.ensures.told)
