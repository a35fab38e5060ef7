use Rattle.std.proofs.Common.{ℕ, ◌-◌, ◌<◌, ◌≤◌, get_or, length}
use Rattle.json_text.specs.Reached.{ReadsDigits}
use Rattle.json_text.proofs.token.read_digits.Given as goal

abbrev pub invariant-loop-place : goal.invariant-loop-place
invariant-loop-place l = record {
  low : l.initial.place ≤ l.place;
  high : l.place ≤ length l.bytes;
  reads : ReadsDigits l.bytes l.initial.place l.place l.fn.first l.last;
  ascii : (k : ℕ) → l.initial.place ≤ k → k < l.place → get_or l.bytes k 0 < 128;
}

abbrev pub decreases-loop-place : goal.decreases-loop-place
decreases-loop-place l = length l.bytes - l.place
