-- No public contract cites this. When no job asks.
use Rattle.std.specs.Prelude.{◌≡◌, ℕ, List, None}
use Rattle.history_model.specs.{declared.entries.Entry.Entry, Jobs.asked}

-- no job is open
abbrev pub NoneAsks : List Entry → Type 0
NoneAsks h = (job : ℕ) → asked job h ≡ None
