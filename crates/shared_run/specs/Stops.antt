-- Which of several stops decides how a shared run ends.
use Rattle.std.specs.Prelude.{◌≡◌, ◌⊎◌, ℕ, ◌+◌, ◌<◌, List, slice_get, Contains, Some, Result, Ok, Err}
use Rattle.script_loop.specs.declared.stop.Stop.{Stop}
use Rattle.script_loop.specs.declared.stop.Stop.TheVariants as script
use Rattle.shared_run.specs.declared.stop.RunStop.{RunStop, TheVariants.{NoMemory, Script}}

-- memory was wanting in some part
abbrev pub WantsMemory : List (Result (Unit {0}) Stop) → Result (Unit {0}) RunStop → Type 0
WantsMemory scripts later = (later ≡ Err NoMemory) ⊎ Contains scripts (Err script.NoMemory)

-- the script behind so many others is the first that stopped
pub record IsFirstStop (scripts : List (Result (Unit {0}) Stop)) (before : ℕ) (stop : Stop)
    : Type 0 where
  pub here : slice_get scripts before ≡ Some (Err stop)
  pub first : (k : ℕ) → k < before → slice_get scripts k ≡ Some (Ok tt)

-- none of the scripts stopped
abbrev pub NoneStopped : List (Result (Unit {0}) Stop) → Type 0
NoneStopped scripts =
    (k : ℕ) (r : Result (Unit {0}) Stop) → slice_get scripts k ≡ Some r → r ≡ Ok tt

-- how a run ends, by the stops of its scripts, in order, and that of what came later: want of memory in any part decides,
-- else the first script that stopped, else what came later
pub record Decides (scripts : List (Result (Unit {0}) Stop))
    (later result : Result (Unit {0}) RunStop) : Type 0 where
  pub memory : WantsMemory scripts later → result ≡ Err NoMemory
  pub first : (WantsMemory scripts later → ⊥) → (before : ℕ) (stop : Stop)
      → IsFirstStop scripts before stop → result ≡ Err (Script (before + 1) stop)
  pub later_on : (WantsMemory scripts later → ⊥) → NoneStopped scripts → result ≡ later
