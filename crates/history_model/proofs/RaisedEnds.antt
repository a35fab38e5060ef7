-- In a legal history both commits of each regression are declared.
use Rattle.std.{proofs.Common.{◌≡◌, ◌+◌, List, [], ◌∷◌, ◌++◌, length, All, sym, subst, arith}, specs.Prelude.{None, IsSome}}
use Rattle.std.proofs.lemmas.{List.Elements.{All-nil, All-weaker}, Grind.common_steps}
use Rattle.history_model.specs.declared.{entries.Entry.Entry, events.Raised.Raised, events.RegressionEvent.RegressionEvent}
use Rattle.history_model.specs.declared.entries.Entry.TheVariants as entry
use Rattle.history_model.specs.{Allowed.{Allowed, Legal}, Commits.name_of, Regressions.{raised, regressions}}
use Rattle.history_model.proofs.{Chosen.{chosen-push, chosen-skip}, Growth.legal-each, OfKind.by-kind, Named.still-named}

abbrev Ends : List Entry → Raised → Type 0
Ends h r = IsSome (name_of r.before h) × IsSome (name_of r.after h)

Claim : List Entry → Type 0
Claim h = All (Ends h) (regressions h)

still-ends : (h : List Entry) (e : Entry) → All (Ends h) (regressions h) → All (Ends (h ++ e ∷ [])) (regressions h)
still-ends h e all = All-weaker (Ends h) (Ends (h ++ e ∷ [])) (λ r both. (still-named h e r.before both.0, still-named h e r.after both.1)) (regressions h) all

skipped : (h : List Entry) (e : Entry) → raised (length h + 1) e ≡ None → Claim h → Claim (h ++ e ∷ [])
unfolding Claim
skipped h e none claim = subst (λ (rs : List Raised). All (Ends (h ++ e ∷ [])) rs) (sym (chosen-skip raised h e none)) (still-ends h e claim)

of-regression : (h : List Entry) (e : RegressionEvent) → Allowed h (entry.Regression e) → Claim h → Claim (h ++ entry.Regression e ∷ [])
unfolding Claim
of-regression h e allowed claim = grind (arith, common_steps, skipped, chosen-push, still-ends, still-named)

grown : (h : List Entry) (e : Entry) → Allowed h e → Claim h → Claim (h ++ e ∷ [])
grown h = grind (arith, common_steps, by-kind, skipped, length, of-regression)

pub regressions-named : (h : List Entry) → Legal h → All (λ (r : Raised). IsSome (name_of r.before h) × IsSome (name_of r.after h)) (regressions h)
unfolding Claim
regressions-named h legal = legal-each Claim (All-nil (Ends [])) grown h legal
