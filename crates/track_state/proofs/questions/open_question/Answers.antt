use Rattle.std.{proofs.Common.{◌≡◌, ℕ, not, List, sym, ap, ◌∙◌, arith}, specs.Prelude.find, proofs.lemmas.Grind.common_steps}
use Rattle.bisect_core.specs.Bisections.{Bisection}
use Rattle.follow_index.specs.Numbered.{open_numbers}
use Rattle.history_model.specs.{declared.entries.Entry.Entry, Entries.entries_of, Jobs.jobs}
use Rattle.track_state.{specs.Questions.is_claimed, proofs.Numbers.{first-question, is-asked, no-question}}
use Rattle.track_state.proofs.questions.open_question.Goals as goal

pub returns-in_default : goal.returns-in_default
returns-in_default c =
    let h : List Entry = entries_of c.args.track.now.history in
    let numbers : c.open_numbers.result.now ≡ open_numbers (jobs h) = c.open_numbers.ensures ∙ ap (λ (js : List Bisection). open_numbers js) c.jobs.ensures in
    no-question h c.args.claimed.now
    (ap (λ (ns : List ℕ). find (λ n. not (is_claimed c.args.claimed.now n)) ns) (sym numbers) ∙ sym c.first_unclaimed.ensures ∙ c.in_default.is)

pub question_of-requires : goal.question_of-requires
question_of-requires c = grind (arith, common_steps, is-asked, not, is_claimed, find)

pub returns : goal.returns
returns c =
    let h : List Entry = entries_of c.args.track.now.history in
    let numbers : c.open_numbers.result.now ≡ open_numbers (jobs h) = c.open_numbers.ensures ∙ ap (λ (js : List Bisection). open_numbers js) c.jobs.ensures in
    first-question h c.args.claimed.now c.in-Some.number c.in_ok-question_of.field-0
    (ap (λ (ns : List ℕ). find (λ n. not (is_claimed c.args.claimed.now n)) ns) (sym numbers) ∙ sym c.first_unclaimed.ensures ∙ c.in-Some.is)
    c.in_ok-question_of.ensures.question c.in_ok-question_of.ensures.number
