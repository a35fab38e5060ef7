use Rattle.std.proofs.lemmas.Grind.{common_steps}
use Rattle.std.{proofs.Common.{◌≡◌, Option, Some, None, is_some, refl, Bor, arith}, specs.Prelude.{find, option_map, option_copied}}
use Rattle.sample_store.specs.declared.store.Stored.{Stored}
use Rattle.machine_state.{specs.Indexes.{stored, stored_runs}, proofs.Marks.look-up}
use Rattle.machine_state.proofs.state.MachineState.was_accepted.Goals as goal

some-map : {A B : Type 0} (f : A → B) (o : Option A) → is_some (option_map f o) ≡ is_some o
some-map f None = refl
some-map f (Some x) = refl

copied : (o : Option (Bor Stored)) → is_some (option_copied o) ≡ is_some o
copied None = refl
copied (Some s) = refl

pub returns : goal.returns
returns c = grind (arith, common_steps, stored_runs, find, look-up, copied, is_some, some-map, stored)
