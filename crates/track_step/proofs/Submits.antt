-- The form `submit`: what its refusals tell of a run that is new.
use Rattle.std.{proofs.Common.{◌≡◌, ℕ, List, [], ◌∷◌, refl, Option, Some, None}, specs.Prelude.{IsSome, option_map, is_none, codes}}
use Rattle.history_model.specs.{declared.entries.Entry.Entry, declared.run.Run.Run, Commits.number_of, Runs.accepted}
use Rattle.request_model.specs.declared.replies.Answer.{Answer}
use Rattle.request_model.specs.declared.replies.Refusal.TheVariants as refusal
use Rattle.track_model.specs.Forms as forms
use Rattle.track_model.{specs.Outcomes.refusal_if, proofs.Rows.{first-none, option_map-none}}

pub free-submit : (h : List Entry) (machine commit : List ℕ) (new : Run) (stated : Option (List ℕ)) → forms.submit_refusal h machine commit new stated ≡ None
    → IsSome (number_of commit h) × (accepted new.run h ≡ None)
free-submit h machine commit new stated free =
    let told : Option Answer = option_map (forms.told_again new) (accepted new.run h) in
    let unknown : Option Answer = refusal_if (is_none (number_of commit h)) refusal.UnknownCommit in
    let one = first-none (refusal_if (forms.states_another machine stated) (refusal.NotReport 6 (codes "machine.name"))) (unknown ∷ told ∷ []) free in
    let two = first-none unknown (told ∷ []) one.1 in
    (known (number_of commit h) two.0, option_map-none (forms.told_again new) (accepted new.run h) (first-none told [] two.1).0)
  where
    known : (o : Option ℕ) → refusal_if (is_none o) refusal.UnknownCommit ≡ None → IsSome o
    known None unknown = absurd (cc)
    known (Some n) unknown = refl
