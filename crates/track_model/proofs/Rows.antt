-- A row of refusals of which none comes.
use Rattle.std.{proofs.Common.{◌≡◌, Bool, false, List, ◌∷◌, Option, arith}, specs.Prelude.{None, option_map}, proofs.lemmas.Grind.common_steps}
use Rattle.request_model.specs.declared.replies.{Answer.Answer, Refusal.Refusal}
use Rattle.track_model.specs.Outcomes.{first, refusal_if}

pub first-none : (o : Option Answer) (os : List (Option Answer)) → first (o ∷ os) ≡ None → (o ≡ None) × (first os ≡ None)
first-none o os none = grind (arith, common_steps)

pub option_map-none : {A B : Type 0} (f : A → B) (o : Option A) → option_map f o ≡ None → o ≡ None
option_map-none f o none = grind (arith, common_steps)

-- nothing is refused where the test fails
pub passes : (test : Bool) (r : Refusal) → refusal_if test r ≡ None → test ≡ false
passes test r none = grind (arith, common_steps)
