use Rattle.std.proofs.Common.{refl}
use Rattle.machine_state.proofs.OneMore.{stays}
use Rattle.machine_state.proofs.state.MachineState.points_of.Goals as goal

pub invariant_of-self : goal.invariant_of-self
invariant_of-self c = stays _ _ _ _ _ _ _ _ _ _ _ _ _ c.self.invariant c.points.ensures.same (λ metric. refl) (λ s. refl) refl
