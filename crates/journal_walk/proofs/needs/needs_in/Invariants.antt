use Rattle.std.proofs.Common.{◌≡◌, take}
use Rattle.history_model.specs.Entries.{entries_of}
use Rattle.journal_walk.specs.Needs.{needs_from}
use Rattle.journal_walk.proofs.needs.needs_in.Given as goal

abbrev pub invariant-loop-placed : goal.invariant-loop-placed
invariant-loop-placed l = record {
  counted : l.place ≡ l.placed-index;
  so_far : l.needs.items ≡ needs_from 0 (take l.placed-index (entries_of l.history));
}
