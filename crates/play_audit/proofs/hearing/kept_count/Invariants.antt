use Rattle.std.proofs.Common.{◌≡◌, ◌≤◌, length, filter, take}
use Rattle.audit_model.specs.Heard.{is_of_store}
use Rattle.play_audit.proofs.hearing.kept_count.Given as goal

abbrev pub invariant-loop-placed : goal.invariant-loop-placed
invariant-loop-placed l = (l.count ≡ length (filter is_of_store (take l.placed-index l.history))) × (l.count ≤ l.placed-index)
