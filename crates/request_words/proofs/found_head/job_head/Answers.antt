use Rattle.std.proofs.Common.{rules, ◌≡◌, ℕ, List, ◌∷◌, refl, sym, ap, ◌∙◌, arith}
use Rattle.line_text.specs.Lines.{words_of}
use Rattle.request_words.{specs.Forms.{of_job, job_word, IsOfForm}, proofs.HeadLines.{unnamed_machine, named_head, formless_head, job_form}}
use Rattle.request_words.proofs.{FormWords.behind, found_head.job_head.Goals.In-Some}
use Rattle.request_words.proofs.found_head.job_head.Goals as goal

-- the line is of the form
of_form : (c : In-Some) (line : List ℕ) → words_of line ≡ job_word c.args.asked ∷ c.args.words → IsOfForm line (of_job c.args.asked c.in-Some.m.now c.in-Some.job)
of_form c line verb = record { words = verb ∙ ap (λ xs. job_word c.args.asked ∷ xs) c.in-Some.ensures.some; numbers = (search rules, tt); amounts = tt; status = tt }

pub returns-in_default : goal.returns-in_default
returns-in_default c line verb = rw c.formless.ensures (formless_head line (λ form of_form.
    let has = job_form c.args.asked form verb of_form in
    c.in_default.ensures.none _ _ has.numbers.0 (behind (sym verb ∙ has.words))))

pub returns : goal.returns
returns c line verb =
    let named = rw c.in-Some-2.is at c.in_ok-machine.ensures.some in rw (c.job_request.ensures, named) (named_head line _ 0 _ (of_form (goal.at.returns c).In-Some line verb) tt tt refl (omega arith) (rw c.in-Some-2.is at c.in_ok-machine.ensures.told, tt) (λ body item told. told))

pub returns-in_default-2 : goal.returns-in_default-2
returns-in_default-2 c line verb = rw c.unnamed.ensures (unnamed_machine line _ 0 (of_form (goal.at.returns-in_default-2 c).In-Some line verb) refl (omega arith) c.in_default-2.is c.in_ok-machine.ensures.told)
