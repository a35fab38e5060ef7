-- Why a room gives no machines when it ends.
use Rattle.std.specs.Prelude.{◌≢◌, ◌<◌, List, length}
use Rattle.track_room.specs.{declared.closing.CloseFault.CloseFault, declared.closing.CloseFault.TheVariants.{InUse, NoMemory}, Sights.Sight}

-- of one of the machines not all turns that were drawn were served, or there is no memory
abbrev pub IsCause : List Sight → CloseFault → Type 0
IsCause pass (InUse machine ticket serving) = (machine < length pass) × (ticket ≢ serving)
IsCause pass NoMemory = Unit {0}
