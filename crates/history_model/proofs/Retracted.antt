-- In a legal history a run that was never accepted was never taken back.
use Rattle.std.proofs.Common.{◌≡◌, ℕ, ◌+◌, List, [], ◌∷◌, ◌++◌, length, refl, sym, ap, ◌∙◌, Option, inl, inr, true, false, cond, arith}
use Rattle.std.{specs.Prelude.{Some, None, find, IsSome, bytes_eq, option_to_list}, specs.Option.option_or, proofs.lemmas.Bool.cases_Bool}
use Rattle.std.proofs.lemmas.{List.Folds.find-append, Grind.common_steps}
use Rattle.history_model.specs.{declared.entries.Acceptance.Acceptance, declared.entries.Entry.Entry, Allowed.{Allowed, Legal}}
use Rattle.history_model.specs.declared.entries.Entry.TheVariants as entry
use Rattle.history_model.{specs.Runs.{acceptance, acceptances, retraction, retractions, accepted, retracted, is_run, takes_back}, proofs.Growth.legal-each}
use Rattle.history_model.proofs.{Chosen.chosen-push, Lists.same-bytes}

-- the claim, of a history as it grows
Claim : List Entry → Type 0
Claim h = (run : List ℕ) → accepted run h ≡ None → retracted run h ≡ None

or-none : {A : Type 0} (o p : Option A) → option_or o p ≡ None → (o ≡ None) × (p ≡ None)
or-none o p none = grind (arith, common_steps)

none-or : {A : Type 0} (o p : Option A) → o ≡ None → p ≡ None → option_or o p ≡ None
none-or o p one two = grind (arith, common_steps)

-- a run that isn't accepted with an entry more wasn't before
before : (h : List Entry) (e : Entry) (run : List ℕ) → accepted run (h ++ e ∷ []) ≡ None → accepted run h ≡ None
before h e run none =
    (or-none (accepted run h) (find (is_run run) (option_to_list (acceptance (length h + 1) e)))
    (sym (find-append (is_run run) (acceptances h) (option_to_list (acceptance (length h + 1) e))) ∙ ap (find (is_run run)) (sym (chosen-push acceptance h e)) ∙ none)).0

grown : (h : List Entry) (e : Entry) → Allowed h e → Claim h → Claim (h ++ e ∷ [])
unfolding Claim
grown h e allowed claim run none =
    ap (find (takes_back run)) (chosen-push retraction h e)
    ∙ find-append (takes_back run) (retractions h) (option_to_list (retraction (length h + 1) e))
    ∙ none-or (retracted run h) (find (takes_back run) (option_to_list (retraction (length h + 1) e))) (claim run (before h e run none)) (of_entry e allowed (before h e run none))
  where
    of_entry : (e : Entry) → Allowed h e → accepted run h ≡ None → find (takes_back run) (option_to_list (retraction (length h + 1) e)) ≡ None
    of_entry (entry.Commit number name) allowed unknown = refl
    of_entry (entry.Accept other) allowed unknown = refl
    of_entry (entry.Tune metric penalty len) allowed unknown = refl
    of_entry (entry.Publish p) allowed unknown = refl
    of_entry (entry.Regression event) allowed unknown = refl
    of_entry (entry.Job event) allowed unknown = refl
    of_entry (entry.Retract other) allowed unknown = elim (cases_Bool (bytes_eq other run)) [
      | inl hit ↦ absurd (known (accepted other h) allowed.0.0 (ap (λ (r : List ℕ). accepted r h) (same-bytes other run hit) ∙ unknown))
      | inr miss ↦ ap (λ b. cond b (Some (record { step = length h + 1; run = other })) None) miss
    ]
      where
        known : (o : Option Acceptance) → IsSome o → o ≡ None → ⊥
        known None some none = let no : false ≡ true = some in cc
        known (Some a) some none = let no : Some a ≡ None = none in cc

pub only-accepted : (h : List Entry) (run : List ℕ) → Legal h → accepted run h ≡ None → retracted run h ≡ None
unfolding Claim
only-accepted h run legal = legal-each Claim (λ run none. refl) grown h legal run
