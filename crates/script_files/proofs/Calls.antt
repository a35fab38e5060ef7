-- The calls that files tell.
use Rattle.std.{proofs.Common.{◌≡◌, ℕ, Bool, true, List, [], ◌∷◌, ◌++◌, Option, Err, ap, arith}, proofs.lemmas.Grind.common_steps, specs.Prelude.option_map}
use Rattle.track_outside.specs.{Named.{Call, with_call}, declared.out_error.OutError.OutError, declared.out_error.OutError.TheVariants.{Failed, NoMemory}}

pub none_more : (told : Option (List Call)) → told ≡ option_map (λ calls. calls ++ []) told
none_more told = grind (arith, common_steps)

-- some calls, and then more
pub then_more : (told : Option (List Call)) (first second : List Call) → option_map (λ calls. calls ++ second) (option_map (λ calls. calls ++ first) told)
    ≡ option_map (λ calls. calls ++ (first ++ second)) told
then_more told first second = grind (arith, common_steps)

pub noted_failed : (A : Type 0) (creates : Bool) (name : List ℕ) (e : OutError) (told : Option (List Call)) → e ≡ Failed
    → with_call {A = A} creates name (Err e) told ≡ option_map (λ calls. calls ++ record { creates = creates; name = name; failed = true } ∷ []) told
noted_failed A creates name e told is = grind (arith, common_steps)

pub noted_none : (A : Type 0) (creates : Bool) (name : List ℕ) (e : OutError) (told : Option (List Call)) → e ≡ NoMemory
    → with_call {A = A} creates name (Err e) told ≡ told
noted_none A creates name e told is = ap (λ (x : OutError). with_call {A = A} creates name (Err x) told) is
