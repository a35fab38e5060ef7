-- No public contract cites this. Which series main may leave: one that isn't stale, or of which a publication has no
-- room.
use Rattle.std.specs.Prelude.{◌≡◌, ◌⊎◌, false, List}
use Rattle.history_model.specs.{declared.entries.Entry.Entry, Runs.Series}
use Rattle.touch_model.specs.Stale.{is_stale}
use Rattle.worker_model.specs.Quiet.{HasAllSteps, WouldPassCuts}

-- a series isn't stale, or a publication of it has no room
abbrev pub IsQuiet : List Entry → Series → Type 0
IsQuiet h s = (is_stale h s ≡ false) ⊎ (HasAllSteps h ⊎ WouldPassCuts h s)
