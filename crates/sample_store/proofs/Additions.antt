-- One run more.
use Rattle.std.proofs.Common.{◌≡◌, ◌+◌, ◌≤◌, Bool, true, false, cond, List, [], ◌∷◌, ◌++◌, length, refl, sym, ap, ◌∙◌, Option, Some, None, inl, inr, ◌⊎◌}
use Rattle.std.{specs.Prelude.{find, bytes_eq, nat_lt}, specs.Option.option_or, proofs.lemmas.List.Sums.sum_by_push}
use Rattle.std.proofs.lemmas.{Bool.{cases_Bool, cases_lt, lt-ltb}, List.Folds.find-append, Slice.Eq.bytes_eq-Decides}
use Rattle.metric_table.specs.Limits.{most}
use Rattle.metric_table.specs.declared.limits.Limit.TheVariants as limit
use Rattle.history_model.specs.{declared.run.Run.Run, Runs.same_run}
use Rattle.sample_store.specs.declared.{answers.Accepted.TheVariants.{New, Duplicate, Clash, Full}, store.Stored.Stored}
use Rattle.sample_store.specs.{Runs.{names, samples_in, AreNamedOnce}, Judged.{judged, judged_by, told_again, within}}

some-or-none : {A : Type 0} (o : Option A) → (o ≡ None) ⊎ ((x : A) × (o ≡ Some x))
some-or-none None = inl refl
some-or-none (Some x) = inr (x, refl)

-- a run is new only where no run has its name, and there is room
pub new-name : (runs : List Stored) (run : Run) → judged runs run ≡ New → find (names run.run) runs ≡ None
new-name runs run new = elim (some-or-none (find (names run.run) runs)) [
  | inl none ↦ none
  | inr some ↦ absurd (told some.0 (sym (ap (judged_by runs run) some.1) ∙ new))
]
  where
    told : (s : Stored) → told_again run s ≡ New → ⊥
    told s = elim (same_run run s.run) as (λ b. cond b (Duplicate s.step) (Clash s.step) ≡ New → ⊥) [ true ↦ (λ e. cc) | false ↦ (λ e. cc) ]

pub new-room : (runs : List Stored) (run : Run) → judged runs run ≡ New → samples_in runs + length run.samples ≤ most limit.Samples
new-room runs run new = elim (cases_lt (most limit.Samples) (samples_in runs + length run.samples)) [
  | inl passed ↦ absurd (refused (nat_lt (most limit.Runs) (length runs + 1)) (ap (λ b. cond (nat_lt (most limit.Runs) (length runs + 1)) (Full limit.Runs) (cond b (Full limit.Samples) New)) (sym (lt-ltb (most limit.Samples) (samples_in runs + length run.samples) passed)) ∙ within_is))
  | inr kept ↦ kept
]
  where
    within_is : within runs run ≡ New
    within_is = ap (judged_by runs run) (sym (new-name runs run new)) ∙ new

    refused : (b : Bool) → cond b (Full limit.Runs) (Full limit.Samples) ≡ New → ⊥
    refused true e = cc
    refused false e = cc

find-none-head : {A : Type 0} (p : A → Bool) (x : A) (xs : List A) → find p (x ∷ xs) ≡ None → (p x ≡ false) × (find p xs ≡ None)
find-none-head p x xs = elim (p x) as (λ b. cond b (Some x) (find p xs) ≡ None → (b ≡ false) × (find p xs ≡ None)) [ true ↦ (λ e. absurd (cc)) | false ↦ (λ e. (refl, e)) ]

pub once-push : (runs : List Stored) (s : Stored) → AreNamedOnce runs → find (names s.run.run) runs ≡ None → AreNamedOnce (runs ++ s ∷ [])
once-push [] s once none = (refl, tt)
once-push (r ∷ runs) s once none =
    let two = find-none-head (names s.run.run) r runs none in (
      find-append (names r.run.run) runs (s ∷ []) ∙ ap (λ o. option_or o (cond (bytes_eq s.run.run r.run.run) (Some s) None)) once.0 ∙ ap (λ b. cond b (Some s) None) (other two.0),
      once-push runs s once.1 two.1,
    )
  where
    other : bytes_eq r.run.run s.run.run ≡ false → bytes_eq s.run.run r.run.run ≡ false
    other miss = elim (cases_Bool (bytes_eq s.run.run r.run.run)) [
      | inl hit ↦ absurd (let no : true ≡ false = sym ((bytes_eq-Decides r.run.run s.run.run).1 (sym ((bytes_eq-Decides s.run.run r.run.run).0 hit))) ∙ miss in cc)
      | inr apart ↦ apart
    ]

pub samples-push : (runs : List Stored) (s : Stored) → samples_in (runs ++ s ∷ []) ≡ samples_in runs + length s.run.samples
samples-push runs s = sum_by_push (λ (s : Stored). length s.run.samples) runs s
