-- What is numbered in a history, and nothing is told of a number before it is there.
use Rattle.std.{proofs.Common.{◌≡◌, ℕ, ◌+◌, ◌<◌, List, [], ◌∷◌, ◌++◌, length, refl, ap, ◌∙◌, arith, Option}, specs.Prelude.{option_to_list, None}}
use Rattle.std.proofs.lemmas.List.{length-append}
use Rattle.history_model.{specs.declared.entries.Entry.Entry, specs.Allowed.{Allowed, Legal}, specs.Entries.chosen, proofs.Chosen.{chosen-push, chosen-skip}}
use Rattle.history_model.proofs.Growth.{legal-each}

module _ {A B : Type 0} (made : ℕ → Entry → Option A) (told : ℕ → ℕ → Entry → Option B) where
  Silent : List Entry → Type 0
  Silent h = (number : ℕ) → length (chosen made h) < number → chosen (told number) h ≡ []

  -- where no entry that is allowed tells of a number above those that are there
  pub silent : ((h : List Entry) (e : Entry) → Allowed h e → (number : ℕ) → length (chosen made h) < number → told number (length h + 1) e ≡ None)
      → (h : List Entry) → Legal h → (number : ℕ) → length (chosen made h) < number → chosen (told number) h ≡ []
  unfolding Silent
  silent none h legal = legal-each Silent (λ n above. refl) grown h legal
    where
      grown : (h : List Entry) (e : Entry) → Allowed h e → Silent h → Silent (h ++ e ∷ [])
      grown h e allowed before number above =
          let more : length (chosen made (h ++ e ∷ [])) ≡ length (chosen made h) + length (option_to_list (made (length h + 1) e)) =
          ap length (chosen-push made h e) ∙ length-append (chosen made h) (option_to_list (made (length h + 1) e)) in
          let over : length (chosen made h) < number = omega (arith, more, above) in
          chosen-skip (told number) h e (none h e allowed number over) ∙ before number over
