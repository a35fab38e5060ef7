-- A step that is there or not.
use Rattle.std.{proofs.Common.{◌≡◌, ℕ, not, Option, is_some, arith}, specs.Prelude.is_none, proofs.lemmas.Grind.common_steps}

pub none-is : (o : Option ℕ) → is_none o ≡ not (is_some o)
none-is o = grind (arith, common_steps)
