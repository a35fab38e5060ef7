-- The test of an entry that is looked at tells the known series that it touches.
use Rattle.std.proofs.Common.{◌≡◌, ℕ, ◌+◌, Bool, true, false, cond, ◌||◌, List, [], ◌∷◌, take, sym, ap, ◌∙◌, inl, inr, Some, arith}
use Rattle.std.{specs.Prelude.{find, slice_get}, specs.List.list_any, proofs.lemmas.Bool.cases_Bool, proofs.lemmas.Grind.common_steps}
use Rattle.history_model.specs.{declared.entries.Acceptance.Acceptance, declared.entries.Entry.Entry, Allowed.Legal, Laws.KnownStays}
use Rattle.history_model.specs.declared.entries.Entry.TheVariants as entry
use Rattle.history_model.specs.Runs.{Series, is_known, is_of}
use Rattle.touch_model.specs.{Laws.{KnownGrows, RetractedStays, brings}, Touches.has_sample}
use Rattle.track_state.{specs.Covering.IsTest, specs.Touching.touched_by, proofs.Covering.next}

or-true : (b : Bool) → (b || true) ≡ true
or-true b = grind (arith, common_steps)

-- a series of which a run that is found has a sample is one of all
found-any : (s : Series) (p : Acceptance → Bool) (runs : List Acceptance) → has_sample s (find p runs) ≡ true
    → list_any (λ (a : Acceptance). list_any (is_of s) a.run.samples) runs ≡ true
found-any s p [] has = absurd (let miss : false ≡ true = has in cc)
found-any s p (a ∷ runs) has = elim (cases_Bool (p a)) [
  | inl hit ↦
      ap (λ b. b || list_any (λ (x : Acceptance). list_any (is_of s) x.run.samples) runs)
      (sym (ap (λ b. has_sample s (cond b (Some a) (find p runs))) hit) ∙ has)
  | inr missed ↦
      ap (λ b. list_any (is_of s) a.run.samples || b) (found-any s p runs (sym (ap (λ b. has_sample s (cond b (Some a) (find p runs))) missed) ∙ has))
      ∙ or-true (list_any (is_of s) a.run.samples)
]

module _ (known : KnownGrows) (stays : KnownStays) (retracted : RetractedStays) (h : List Entry) (legal : Legal h) (place : ℕ) where
  brought-known : (e : Entry) → slice_get h place ≡ Some e → (s : Series) → brings s e ≡ true → is_known s h ≡ true
  brought-known e there s is =
      stays h s (place + 1)
      (ap (is_known s) (next h place e there) ∙ known (take place h) e s ∙ ap (λ b. is_known s (take place h) || b) is ∙ or-true (is_known s (take place h)))

  never : {P : Type 0} → false ≡ true → P
  never miss = absurd (cc)

  pub is-test : (e : Entry) → slice_get h place ≡ Some e → IsTest h place e (touched_by h e)
  is-test (entry.Commit number name) there = record { just = λ s miss. never miss; each = λ s miss is. never miss }
  is-test (entry.Publish p) there = record { just = λ s miss. never miss; each = λ s miss is. never miss }
  is-test (entry.Regression event) there = record { just = λ s miss. never miss; each = λ s miss is. never miss }
  is-test (entry.Job event) there = record { just = λ s miss. never miss; each = λ s miss is. never miss }
  is-test (entry.Accept run) there = record {
    just = λ s has. (has, brought-known (entry.Accept run) there s has);
    each = λ s has is. has;
  }
  is-test (entry.Retract run) there = grind (arith, common_steps, h, take, place, retracted, legal, found-any)
  is-test (entry.Tune metric penalty len) there = grind (arith, common_steps)
