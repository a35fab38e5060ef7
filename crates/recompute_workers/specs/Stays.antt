-- No public contract cites this. What publications leave as it is.
use Rattle.std.specs.Prelude.{◌≡◌, List}
use Rattle.history_model.specs.{declared.entries.Entry.Entry, Runs.{Series, is_known}}

-- the same series are known
abbrev pub SameKnown : List Entry → List Entry → Type 0
SameKnown old new = (s : Series) → is_known s new ≡ is_known s old
