use Rattle.std.proofs.Common.{◌≡◌, ℕ, List, ◌∷◌, refl, ap, ◌∙◌, arith}
use Rattle.line_text.specs.Lines.{words_of}
use Rattle.request_words.{specs.Forms.{of_series, series_word, IsOfForm}, proofs.HeadLines.{unnamed_head, named_head}, proofs.head.series_head.Goals.In-Some}
use Rattle.request_words.proofs.head.series_head.Goals as goal

-- the line is of the form
of_form : (c : In-Some) (line : List ℕ) → words_of line ≡ series_word c.args.asked ∷ c.args.words → IsOfForm line (of_series c.args.asked c.in-Some.m.now c.in-Some.t.now c.in-Some.x.now)
of_form c line verb = record { words = verb ∙ ap (λ xs. series_word c.args.asked ∷ xs) c.in-Some.ensures.some; numbers = tt; amounts = tt; status = tt }

pub returns : goal.returns
returns c line verb =
    let named = rw c.in-Some-2.is at c.in_ok-machine.ensures.some in rw (c.series_request.ensures, named.0, named.1, named.2) (named_head line _ 0 _ (of_form (goal.at.returns c).In-Some line verb) tt tt refl (omega arith) (rw c.in-Some-2.is at c.in_ok-machine.ensures.told) (λ body item told. told))

pub returns-in_default-2 : goal.returns-in_default-2
returns-in_default-2 c line verb = rw c.unnamed.ensures (unnamed_head line _ 0 (of_form (goal.at.returns-in_default-2 c).In-Some line verb) refl (omega arith) c.in_default-2.is c.in_ok-machine.ensures.told)
