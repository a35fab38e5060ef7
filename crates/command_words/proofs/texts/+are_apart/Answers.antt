use Rattle.std.{proofs.Common.{◌≢◌, ◌↔◌, ℕ, List, false, refl, sym, subst}, specs.Prelude.{AllPairs, Contains, IsTrue}, specs.Borrow.Bor}
use Rattle.command_words.{specs.Texts.shown, proofs.Different.{comes_again, apart_behind}}
use Rattle.command_words.proofs.texts.+are_apart.Goals as goal

pub returns-then-has_text : goal.returns-then-has_text
returns-then-has_text t c =
    let has : Contains (shown c.in-Some.rest.now) c.in-Some.first.now.now = c.if-has_text.ensures.0 refl in
    subst (λ (l : List (Bor (List ℕ))). IsTrue false ↔ AllPairs ◌≢◌ (shown l)) (sym c.in-Some.ensures.cases.0) (
      (λ no. absurd (cc)),
      (λ all. absurd (comes_again c.in-Some.first.now.now (shown c.in-Some.rest.now) has all)),
    )

pub returns : goal.returns
returns t c =
    let none : ¬ Contains (shown c.in-Some.rest.now) c.in-Some.first.now.now = λ has. let bad = c.if-has_text.ensures.1 has in absurd (cc) in
    subst (λ (l : List (Bor (List ℕ))). IsTrue c.are_apart.result ↔ AllPairs ◌≢◌ (shown l)) (sym c.in-Some.ensures.cases.0)
    (apart_behind c.in-Some.first.now.now (shown c.in-Some.rest.now) none c.are_apart.result c.are_apart.ensures)
