-- What holds of the entries of all legal histories.
use Rattle.std.specs.{Prelude.List, List.AllByRecursion}
use Rattle.history_model.specs.{declared.entries.Entry.Entry, Allowed.Legal}
use Rattle.track_entry.specs.Texts.{HasShortMetric}

-- each entry of a legal history names a short metric, if it names one
abbrev pub LegalIsShort : Type 0
LegalIsShort = (h : List Entry) → Legal h → AllByRecursion HasShortMetric h
