use Rattle.std.proofs.Common.{ℕ, ◌<◌}
use Rattle.segment_model.specs.Tables.{IsMark}
use Rattle.cost_certificate.specs.Checks.{mark_at}
use Rattle.cost_certificate.proofs.blocks.marks_hold.Given as goal

abbrev pub invariant-loop-s : goal.invariant-loop-s
invariant-loop-s l = (s : ℕ) → s < l.s → IsMark l.n s (mark_at l.tables s)
