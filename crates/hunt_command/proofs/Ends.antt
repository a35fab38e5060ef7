-- How a hunt ends, from what its parts promise.
use Rattle.std.proofs.Common.{ℕ, inl, List, Option, refl, arith}
use Rattle.track_outside.specs.declared.sink.Sink as sink
use Rattle.track_outside.specs.declared.runner.Runner as runner
use Rattle.track_outside.specs.Calls.{IsUntouched}
use Rattle.line_pieces.specs.declared.stop.Stop.{Stop}
use Rattle.line_pieces.specs.declared.stop.Stop.TheVariants as stop
use Rattle.hunt_command.specs.{Endings.EndsHunt, declared.end.HuntEnd.TheVariants.Stopped}

-- a sink that nothing was done to
pub untouched : {O : Type 0} (g : sink.Ghosts O) (out : O) → IsUntouched g out out
untouched g out = record { taken = refl; counts = omega arith }

-- where reading stops, nothing was written and nothing asked
pub nothing_done : {O R : Type 0} (h : sink.Ghosts O) (g : runner.Ghosts R) (left : Option (List ℕ)) (test : List ℕ) (width : ℕ) (out : O) (runners : List R) (s : Stop)
    → EndsHunt h g left test width out out runners runners (Stopped s)
nothing_done h g left test width out runners stop.NoMemory = (untouched h out, inl refl)
nothing_done h g left test width out runners other = (untouched h out, refl)
