use Rattle.std.proofs.Common.{◌≡◌, true, take}
use lib.Pointwise.{pointwise}
use Rattle.history_model.specs.Runs.{same_sample}
use Rattle.sample_store.proofs.store.are_same.Given as goal

abbrev pub invariant-loop-i : goal.invariant-loop-i
invariant-loop-i l = pointwise same_sample (take l.i l.one) (take l.i l.other) ≡ true
