use Rattle.std.{proofs.Common.{◌≡◌, ◌≤◌, take}, specs.Prelude.IfSome}
use Rattle.store_rows.specs.Loading.{LeadsTo}
use Rattle.store_rows.proofs.load.load_into.Given as goal

abbrev pub invariant-loop-k : goal.invariant-loop-k
invariant-loop-k g l =
    (g.K.Keeper.kept l.keeper ≡ g.K.Keeper.kept l.initial.keeper)
    × (g.K.Keeper.faults l.initial.keeper ≤ g.K.Keeper.faults l.keeper)
    × (g.K.Keeper.started l.keeper ≡ g.K.Keeper.started l.initial.keeper)
    × IfSome (g.K.Keeper.kept l.initial.keeper) (λ rows. LeadsTo g.S.Restored.does l.initial.value (take l.k rows) l.value)
