use Rattle.std.proofs.Common.{ℕ, ◌*◌, ◌^◌, ◌<◌, ◌≤◌, pos, neg_ℤ, ◌≤ℤ◌}
use Rattle.cost_certificate.specs.Checks.{IsLevel, total_at}
use Rattle.cost_certificate.proofs.level.is_level.Given as goal

abbrev pub invariant-loop-s : goal.invariant-loop-s
invariant-loop-s l = record {
  level : IsLevel l.tables l.from l.s l.end;
  bottom : (r : ℕ) → l.from ≤ r → r < l.s → l.bottom ≤ℤ total_at l.tables r;
  low : neg_ℤ (pos (10 ^ 36)) ≤ℤ l.bottom;
  high : l.bottom ≤ℤ pos (2 * 10 ^ 37);
}
