use Rattle.std.{proofs.Common.{◌↔◌, ℕ, ◌<◌, List, length, sym, subst}, specs.Prelude.{All, IsTrue}, specs.Borrow.Bor}
use Rattle.command_words.{specs.Texts.shown, proofs.Different.{each_behind, positive}}
use Rattle.command_words.proofs.texts.+all_named.Goals as goal

abbrev IsNamed : List ℕ → Type 0
IsNamed text = 0 < length text

pub returns : goal.returns
returns t c =
    let first : IsNamed c.in-Some.first.now.now = positive (length c.in-Some.first.now.now) c.if-is_empty.ensures in
    subst (λ (l : List (Bor (List ℕ))). IsTrue c.all_named.result ↔ All IsNamed (shown l)) (sym c.in-Some.ensures.cases.0)
    (each_behind IsNamed c.in-Some.first.now.now (shown c.in-Some.rest.now) first c.all_named.result c.all_named.ensures)
