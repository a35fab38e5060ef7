use Rattle.std.proofs.Common.{ℕ, ◌-◌, ◌<◌, ◌≤◌, IsTrue, get_or, length}
use Rattle.json_text.proofs.token.run_end.Given as goal

abbrev pub invariant-loop-end : goal.invariant-loop-end
invariant-loop-end g l = record {
  low : l.start ≤ l.end;
  high : l.end ≤ length l.bytes;
  run : (k : ℕ) → l.start ≤ k → k < l.end → IsTrue (g.C.Class.test (get_or l.bytes k 0));
}

abbrev pub decreases-loop-end : goal.decreases-loop-end
decreases-loop-end g l = length l.bytes - l.end
