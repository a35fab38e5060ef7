use Rattle.std.{proofs.Common.{◌↔◌, ℕ, List, ◌∷◌, Bool, false, refl, sym, subst, ◌∙◌}, specs.Prelude.{All, Contains, IsTrue, Result, Ok, Err, IfOk}}
use Rattle.std.{specs.Borrow.Bor, proofs.lemmas.List.Elements.All-head}
use Rattle.command_words.{specs.Plans.transcript_of, specs.Texts.shown, proofs.Different.each_behind}
use Rattle.command_words.proofs.plan.+are_own.Goals as goal

-- the transcript of the script is none of them
abbrev IsOwn : List (List ℕ) → List ℕ → Type 0
IsOwn among script = ¬ Contains among (transcript_of script)

own_behind : {E : Type 0} (among : List (List ℕ)) (x : List ℕ) (xs : List (List ℕ)) → IsOwn among x → (found : Result Bool E)
    → IfOk found (λ yes. IsTrue yes ↔ All (IsOwn among) xs) → IfOk found (λ yes. IsTrue yes ↔ All (IsOwn among) (x ∷ xs))
own_behind among x xs first (Ok b) is = each_behind (IsOwn among) x xs first b is
own_behind among x xs first (Err e) is = tt

pub returns-then-has_text : goal.returns-then-has_text
returns-then-has_text t c =
    let among = shown c.args.among.now in
    let has : Contains among (transcript_of c.in-Some.first.now.now) =
    subst (λ (name : List ℕ). Contains among name) (c.deref.ensures ∙ c.in_ok-transcript_name.ensures) (c.if-has_text.ensures.0 refl) in
    subst (λ (l : List (Bor (List ℕ))). IsTrue false ↔ All (IsOwn among) (shown l)) (sym c.in-Some.ensures.cases.0) (
      (λ no. absurd (cc)),
      (λ all. absurd (All-head (IsOwn among) c.in-Some.first.now.now (shown c.in-Some.rest.now) all has)),
    )

pub returns : goal.returns
returns t c =
    let among = shown c.args.among.now in
    let own : IsOwn among c.in-Some.first.now.now = λ has.
    let bad = c.if-has_text.ensures.1 (subst (λ (name : List ℕ). Contains among name) (sym (c.deref.ensures ∙ c.in_ok-transcript_name.ensures)) has) in absurd (cc) in
    subst (λ (l : List (Bor (List ℕ))). IfOk c.are_own.result (λ yes. IsTrue yes ↔ All (IsOwn among) (shown l))) (sym c.in-Some.ensures.cases.0)
    (own_behind among c.in-Some.first.now.now (shown c.in-Some.rest.now) own c.are_own.result c.are_own.ensures)
