-- In a legal history the commit of each accepted run is declared.
use Rattle.std.{proofs.Common.{◌≡◌, ℕ, ◌+◌, List, [], ◌∷◌, ◌++◌, length, All, arith}, proofs.lemmas.Grind.common_steps, specs.Prelude.{None, IsSome}}
use Rattle.std.proofs.lemmas.List.{Elements.All-nil, Folds.find-append}
use Rattle.history_model.specs.declared.entries.{Acceptance.Acceptance, Entry.Entry}
use Rattle.history_model.specs.{Allowed.{Allowed, Legal}, Commits.name_of, Runs.{acceptance, acceptances}}
use Rattle.history_model.proofs.{Growth.legal-each, Chosen.{chosen-push, chosen-skip}}

abbrev Named : List Entry → Acceptance → Type 0
Named h a = IsSome (name_of a.run.commit h)

Claim : List Entry → Type 0
Claim h = All (Named h) (acceptances h)

pub still-named : (h : List Entry) (e : Entry) (n : ℕ) → IsSome (name_of n h) → IsSome (name_of n (h ++ e ∷ []))
still-named h e n some = grind (arith, common_steps, length, chosen-push, find-append)

-- an entry that accepts no run names no run that must have its commit
skipped : (h : List Entry) (e : Entry) → acceptance (length h + 1) e ≡ None → Claim h → Claim (h ++ e ∷ [])
unfolding Claim
skipped h e none claim = grind (arith, common_steps, chosen-skip, still-named)

grown : (h : List Entry) (e : Entry) → Allowed h e → Claim h → Claim (h ++ e ∷ [])
unfolding Claim
grown h e allowed claim = grind (arith, common_steps, skipped, still-named, chosen-push, length)

pub runs-named : (h : List Entry) → Legal h → All (λ (a : Acceptance). IsSome (name_of a.run.commit h)) (acceptances h)
unfolding Claim
runs-named h legal = legal-each Claim (All-nil (Named [])) grown h legal
