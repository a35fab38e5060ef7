-- What a keeper's answer makes of a load.
use Rattle.std.specs.Prelude.{◌≡◌, ◌⊎◌, ℕ, List, [], ◌∷◌, Option}
use Rattle.track_outside.specs.{Kept.with_more, declared.out_error.OutError.OutError}
use Rattle.track_outside.specs.declared.out_error.OutError.TheVariants as out
use Rattle.store_rows.specs.declared.load.LoadFault.{LoadFault}
use Rattle.store_rows.specs.declared.load.LoadFault.TheVariants as fault

abbrev pub load_fault : OutError → LoadFault
load_fault out.Failed = fault.KeepFault
load_fault out.NoMemory = fault.NoMemory

-- the names that a keeper was started with are those of before, or this one came behind them
abbrev pub MayHaveName : List ℕ → Option (List (List ℕ)) → Option (List (List ℕ)) → Type 0
MayHaveName name before after = (after ≡ before) ⊎ (after ≡ with_more before (name ∷ []))
