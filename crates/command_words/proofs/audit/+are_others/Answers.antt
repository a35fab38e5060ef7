use Rattle.std.{proofs.Common.{◌≡◌, ◌≢◌, ◌↔◌, ℕ, List, ◌∷◌, Bool, false, refl, sym, subst, ◌∙◌}, specs.Prelude.{All, IsTrue, Result, Ok, Err, IfOk}}
use Rattle.std.{specs.Borrow.Bor, proofs.lemmas.List.Elements.All-head}
use Rattle.command_words.{specs.Plans.transcript_of, specs.Texts.shown, proofs.Different.each_behind}
use Rattle.command_words.proofs.audit.+are_others.Goals as goal

-- the transcript of the script has another name
abbrev IsOther : List ℕ → List ℕ → Type 0
IsOther name script = transcript_of script ≢ name

other_behind : {E : Type 0} (name : List ℕ) (x : List ℕ) (xs : List (List ℕ)) → IsOther name x → (found : Result Bool E)
    → IfOk found (λ yes. IsTrue yes ↔ All (IsOther name) xs) → IfOk found (λ yes. IsTrue yes ↔ All (IsOther name) (x ∷ xs))
other_behind name x xs first (Ok b) is = each_behind (IsOther name) x xs first b is
other_behind name x xs first (Err e) is = tt

pub returns-then-is_same : goal.returns-then-is_same
returns-then-is_same t c =
    let name = c.args.name.now in
    let same : transcript_of c.in-Some.first.now.now ≡ name = sym (c.deref.ensures ∙ c.in_ok-transcript_name.ensures) ∙ c.if-is_same.ensures.0 refl in
    subst (λ (l : List (Bor (List ℕ))). IsTrue false ↔ All (IsOther name) (shown l)) (sym c.in-Some.ensures.cases.0) (
      (λ no. absurd (cc)),
      (λ all. absurd (All-head (IsOther name) c.in-Some.first.now.now (shown c.in-Some.rest.now) all same)),
    )

pub returns : goal.returns
returns t c =
    let name = c.args.name.now in
    let other : IsOther name c.in-Some.first.now.now = λ same.
    let bad = c.if-is_same.ensures.1 (c.deref.ensures ∙ c.in_ok-transcript_name.ensures ∙ same) in absurd (cc) in
    subst (λ (l : List (Bor (List ℕ))). IfOk c.are_others.result (λ yes. IsTrue yes ↔ All (IsOther name) (shown l))) (sym c.in-Some.ensures.cases.0)
    (other_behind name c.in-Some.first.now.now (shown c.in-Some.rest.now) other c.are_others.result c.are_others.ensures)
