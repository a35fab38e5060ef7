use Rattle.std.{proofs.Common.{◌≡◌, ◌↔◌, ℕ, List, true, refl, sym, subst}, specs.Prelude.{Contains, IsTrue}, specs.Borrow.Bor}
use Rattle.command_words.{specs.Texts.shown, proofs.Different.{found_first, found_behind}}
use Rattle.command_words.proofs.texts.+has_text.Goals as goal

pub returns-then-is_same : goal.returns-then-is_same
returns-then-is_same t c =
    let text = c.args.text.now in
    let same = c.if-is_same.ensures.0 refl in
    subst (λ (l : List (Bor (List ℕ))). IsTrue true ↔ Contains (shown l) text) (sym c.in-Some.ensures.cases.0)
    ((λ yes. found_first c.in-Some.first.now.now text (shown c.in-Some.rest.now) same), (λ has. refl))

pub returns : goal.returns
returns t c =
    let text = c.args.text.now in
    let differs : c.in-Some.first.now.now ≡ text → ⊥ = λ same. let bad = c.if-is_same.ensures.1 same in absurd (cc) in
    subst (λ (l : List (Bor (List ℕ))). IsTrue c.has_text.result ↔ Contains (shown l) text) (sym c.in-Some.ensures.cases.0)
    (found_behind c.in-Some.first.now.now text (shown c.in-Some.rest.now) differs c.has_text.result c.has_text.ensures)
