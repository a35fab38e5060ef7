-- Which retractions are refused, as the stored runs tell it.
use Rattle.std.{proofs.Common.{◌≡◌, ℕ, List, [], ◌∷◌, refl, sym, ap, ◌∙◌, Option, inl, inr, ◌⊎◌}, specs.Prelude.{Some, None, find, option_map, is_none, IsSome}}
use Rattle.history_model.specs.declared.entries.{Acceptance.Acceptance, Entry.Entry}
use Rattle.request_model.specs.declared.replies.Answer.{Answer}
use Rattle.request_model.specs.declared.replies.Answer.TheVariants as answer
use Rattle.request_model.specs.declared.replies.Refusal.TheVariants as refusal
use Rattle.machine_state.{specs.Outcomes.{refusal_if, first}, proofs.Rows.{first-none, option_map-none}, specs.Indexes.{stored, stored_runs}}
use Rattle.history_model.{specs.Runs.{Retraction, accepted, retracted, takes_back, is_run, acceptances, retractions}, proofs.Lists.{find-passes, same-bytes}}
use Rattle.machine_state.specs.Forms as forms
use Rattle.sample_store.specs.{declared.store.Stored.Stored, Runs.names}
use Rattle.machine_state.proofs.Marks.{look-up}

-- a run may be retracted where nothing is refused
pub free-run : (h : List Entry) (run : List ℕ) → forms.retract_refusal h run ≡ None → IsSome (accepted run h) × (retracted run h ≡ None)
free-run h run free =
    let told : Retraction → Answer = λ (r : Retraction). answer.Refused (refusal.AlreadyRetracted r.step) in
    let both = first-none (refusal_if (is_none (accepted run h)) refusal.UnknownRun) (option_map told (retracted run h) ∷ []) free in
    (known (accepted run h) both.0, option_map-none told (retracted run h) (first-none (option_map told (retracted run h)) [] both.1).0)
  where
    known : (o : Option Acceptance) → refusal_if (is_none o) refusal.UnknownRun ≡ None → IsSome o
    known None unknown = absurd (cc)
    known (Some a) unknown = search

some-or-none : {A : Type 0} (o : Option A) → (o ≡ None) ⊎ ((x : A) × (o ≡ Some x))
some-or-none None = inl refl
some-or-none (Some x) = inr (x, refl)

first-one : (o : Option Answer) → first (o ∷ []) ≡ o
first-one None = refl
first-one (Some a) = refl

pub refusal-unknown : (h : List Entry) (run : List ℕ) → find (names run) (stored_runs h) ≡ None → forms.retract_refusal h run ≡ Some (answer.Refused refusal.UnknownRun)
refusal-unknown h run none =
    let unknown : accepted run h ≡ None = option_map-none (stored (retractions h)) (accepted run h) (sym (look-up h run) ∙ none) in
    rw unknown refl

pub refusal-stored : (h : List Entry) (run : List ℕ) (s : Stored) → find (names run) (stored_runs h) ≡ Some s
    → forms.retract_refusal h run ≡ option_map (λ step. answer.Refused (refusal.AlreadyRetracted step)) s.retracted
refusal-stored h run s found = elim (some-or-none (accepted run h)) [
  | inl none ↦ absurd (let no : None ≡ Some s = sym (look-up h run ∙ ap (option_map (stored (retractions h))) none) ∙ found in cc)
  | inr some ↦ with-run some.0 some.1
]
  where
    again : (o : Option Retraction) → option_map (λ (r : Retraction). answer.Refused (refusal.AlreadyRetracted r.step)) o ≡ option_map (λ step. answer.Refused (refusal.AlreadyRetracted step)) (option_map (λ (r : Retraction). r.step) o)
    again None = refl
    again (Some r) = refl

    with-run : (a : Acceptance) → accepted run h ≡ Some a → forms.retract_refusal h run ≡ option_map (λ step. answer.Refused (refusal.AlreadyRetracted step)) s.retracted
    with-run a known =
        let is : Some (stored (retractions h) a) ≡ Some s = sym (look-up h run ∙ ap (option_map (stored (retractions h))) known) ∙ found in
        let s_is : stored (retractions h) a ≡ s = cc in
        let name_is : a.run.run ≡ run = same-bytes a.run.run run (find-passes (is_run run) (acceptances h) a known) in
        let row : forms.retract_refusal h run ≡ option_map (λ (r : Retraction). answer.Refused (refusal.AlreadyRetracted r.step)) (retracted run h) = rw known (first-one _) in
        row ∙ again (retracted run h)
        ∙ ap (λ (name : List ℕ). option_map (λ step. answer.Refused (refusal.AlreadyRetracted step)) (option_map (λ (r : Retraction). r.step) (find (takes_back name) (retractions h)))) (sym name_is)
        ∙ ap (λ (t : Stored). option_map (λ step. answer.Refused (refusal.AlreadyRetracted step)) t.retracted) s_is
