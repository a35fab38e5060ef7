-- What is read from a history with one entry more.
use Rattle.std.{proofs.Common.{◌≡◌, ℕ, ◌+◌, List, [], ◌∷◌, ◌++◌, length, arith, Option}, specs.Prelude.{option_to_list, None}}
use Rattle.std.proofs.lemmas.{List.{append-nil, map-append}, Grind.common_steps}
use Rattle.history_model.specs.{declared.entries.Entry.Entry, declared.entries.Placed.Placed, Entries.{chosen_from, chosen, entries_of}}

chosen_from-push : {A : Type 0} (choice : ℕ → Entry → Option A) (h : List Entry) (e : Entry) (step : ℕ)
    → chosen_from step choice (h ++ e ∷ []) ≡ chosen_from step choice h ++ option_to_list (choice (length h + step) e)
chosen_from-push choice [] e step = grind (arith, common_steps)
chosen_from-push choice (x ∷ h) e step = grind (arith, common_steps, chosen_from-push choice h e (step + 1))

-- what is read from a history with one entry more
pub chosen-push : {A : Type 0} (choice : ℕ → Entry → Option A) (h : List Entry) (e : Entry)
    → chosen choice (h ++ e ∷ []) ≡ chosen choice h ++ option_to_list (choice (length h + 1) e)
chosen-push choice h e = chosen_from-push choice h e 1

-- an entry of another kind changes nothing there
pub chosen-skip : {A : Type 0} (choice : ℕ → Entry → Option A) (h : List Entry) (e : Entry)
    → choice (length h + 1) e ≡ None → chosen choice (h ++ e ∷ []) ≡ chosen choice h
chosen-skip choice h e none = grind (arith, common_steps, chosen-push, option_to_list, append-nil)

-- the entries of a history with one more
pub entries-push : (history : List Placed) (p : Placed) → entries_of (history ++ p ∷ []) ≡ entries_of history ++ p.entry ∷ []
entries-push history p = map-append (λ (p : Placed). p.entry) history (p ∷ [])
