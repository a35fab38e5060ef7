-- In a legal history a run is accepted before it is retracted.
use Rattle.std.proofs.Common.{◌≡◌, ℕ, zero, suc, ◌+◌, true, false, List, [], ◌∷◌, ◌++◌, length, take, drop, refl, sym, ap, subst, ◌∙◌, Option, Some, None}
use Rattle.std.specs.{Prelude.{IsSome, find, option_to_list, slice_get}, Option.option_or}
use Rattle.std.proofs.lemmas.List.{append-nil, append_assoc, take-append-drop, Folds.find-append}
use Rattle.history_model.specs.declared.entries.{Acceptance.Acceptance, Entry.Entry, Entry.TheVariants.Retract}
use Rattle.history_model.specs.{Allowed.{Allowed, AllowedAfter, Legal}, Laws.AcceptancesGrow, Runs.{acceptance, acceptances, accepted, is_run}}

-- each entry of a legal history is allowed after those before it
allowed-at : (before es : List Entry) (k : ℕ) (e : Entry) → AllowedAfter before es → slice_get es k ≡ Some e → Allowed (before ++ take k es) e
allowed-at before [] zero e legal there = absurd (cc)
allowed-at before [] (suc k) e legal there = absurd (cc)
allowed-at before (x ∷ es) zero e legal there =
    let P : List Entry → Entry → Type 0 = λ h y. Allowed h y in
    let same : x ≡ e = cc in
    subst (λ (y : Entry). P (before ++ []) y) same (subst (λ (h : List Entry). P h x) (sym (append-nil before)) legal.0)
allowed-at before (x ∷ es) (suc k) e legal there =
    let P : List Entry → Type 0 = λ h. Allowed h e in
    subst P (append_assoc before (x ∷ []) (take k es)) (allowed-at (before ++ x ∷ []) es k e legal.1 there)

module _ (grow : AcceptancesGrow) (run : List ℕ) where
  first : (o p : Option Acceptance) → IsSome o → option_or o p ≡ o
  first None p some = absurd (let no : false ≡ true = some in cc)
  first (Some a) p some = refl

  still : (h : List Entry) (e : Entry) → IsSome (accepted run h) → accepted run (h ++ e ∷ []) ≡ accepted run h
  still h e some =
      let more : List Acceptance = option_to_list (acceptance (length h + 1) e) in
      ap (find (is_run run)) (grow h e) ∙ find-append (is_run run) (acceptances h) more
      ∙ first (accepted run h) (find (is_run run) more) some

  later : (h more : List Entry) → IsSome (accepted run h) → accepted run (h ++ more) ≡ accepted run h
  later h [] some = ap (accepted run) (append-nil h)
  later h (e ∷ more) some =
      let kept = still h e some in
      ap (accepted run) (sym (append_assoc h (e ∷ []) more))
      ∙ later (h ++ e ∷ []) more (subst (λ (o : Option Acceptance). IsSome o) (sym kept) some) ∙ kept

  pub retracted-stays : (h : List Entry) (k : ℕ) → Legal h → slice_get h k ≡ Some (Retract run) → accepted run h ≡ accepted run (take k h)
  retracted-stays h k legal there =
      let allowed = allowed-at [] h k (Retract run) legal there in
      ap (accepted run) (sym (take-append-drop k h)) ∙ later (take k h) (drop k h) allowed.0.0
