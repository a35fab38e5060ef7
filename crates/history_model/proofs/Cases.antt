-- Options and answers, by cases.
use Rattle.std.{proofs.Common.{◌≡◌, Option, Some, arith}, specs.Prelude.{IsSome, OnErr, Result}, proofs.lemmas.Grind.common_steps}

pub some-is : {A : Type 0} (o : Option A) (x : A) → o ≡ Some x → IsSome o
some-is o x e = grind (arith, common_steps)

-- what holds whatever the answer
pub any-err : {T E : Type 0} (r : Result T E) {P : Type 0} → P → OnErr r P
any-err r p = grind (arith, common_steps)
