use Rattle.std.{proofs.Common.{rules, ◌≡◌, ℕ, ◌<◌, ◌^◌, List, ◌∷◌, codes, pos, FitsSigned, subst, sym, refl, ◌∙◌, arith}, specs.Str.Parse.digits_value}
use Rattle.std.{specs.Int.w128, proofs.lemmas.Int.{ints, to_z-of_z}, proofs.lemmas.Grind.common_steps}
use Rattle.line_text.specs.Lines.{words_of}
use Rattle.request_words.{specs.Forms.{tune, IsOfForm}, proofs.HeadLines.{unnamed_head, wide_head, off_head, named_head, formless_behind}}
use Rattle.request_words.proofs.{FormWords.behind, Given.all-given, head.tune_head.Goals.In-Some}
use Rattle.request_words.proofs.head.tune_head.Goals as goal

-- the line is of the form
of_form : (c : In-Some) (line : List ℕ) → words_of line ≡ codes "tune" ∷ c.args.words → IsOfForm line (tune c.in-Some.m.now c.in-Some.x.now c.in-Some.p.now c.in-Some.given)
of_form c line verb = grind (arith, common_steps)

pub returns-in_default : goal.returns-in_default
returns-in_default c line verb =
    rw c.formless.ensures (formless_behind verb (λ of_form. c.in_default.ensures.none _ _ _ _ of_form.amounts.0 (all-given _ of_form.numbers) (behind (sym verb ∙ of_form.words))))

pub returns : goal.returns
returns c line verb =
    let named = rw c.in-Some-2.is at c.in_ok-machine.ensures.some in
    let small : FitsSigned w128 (pos (digits_value 10 c.in-Some.p.now)) = omega (arith, ints, c.in-Some-penalty_of.ensures.small) in
    let fits : FitsSigned w128 c.in-Some-penalty_of.penalty = subst (FitsSigned w128) (sym c.in-Some-penalty_of.ensures.some) small in
    rw (named.0, named.1, to_z-of_z w128 c.in-Some-penalty_of.penalty fits, c.in-Some-penalty_of.ensures.some, c.in-Some-length_of.ensures.some)
    (named_head line _ 0 _ (of_form (goal.at.returns c).In-Some line verb) c.in-Some-penalty_of.ensures.small c.in-Some-length_of.ensures.fits refl (omega arith)
    (rw c.in-Some-2.is at c.in_ok-machine.ensures.told) (λ body item told. told))

pub returns-in_default-penalty_of : goal.returns-in_default-penalty_of
returns-in_default-penalty_of c line verb =
    let above : 10 ^ 36 < digits_value 10 c.in-Some.p.now = search rules in
    wide_head line _ 0 (of_form (goal.at.returns-in_default-penalty_of c).In-Some line verb) refl (omega arith) (rw c.in-Some-2.is at c.in_ok-machine.ensures.told)
    (λ within. absurd (omega (arith, within, above)))

pub returns-in_default-length_of : goal.returns-in_default-length_of
returns-in_default-length_of c line verb =
    off_head line _ 0 (of_form (goal.at.returns-in_default-length_of c).In-Some line verb) refl (omega arith) (rw c.in-Some-2.is at c.in_ok-machine.ensures.told)
    c.in-Some-penalty_of.ensures.small (search rules)

pub returns-in_default-2 : goal.returns-in_default-2
returns-in_default-2 c line verb =
    rw c.unnamed.ensures (unnamed_head line _ 0 (of_form (goal.at.returns-in_default-2 c).In-Some line verb) refl (omega arith) c.in_default-2.is c.in_ok-machine.ensures.told)
