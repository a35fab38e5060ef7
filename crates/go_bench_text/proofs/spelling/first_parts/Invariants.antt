use Rattle.std.proofs.Common.{ℕ, ◌<◌, List, length}
use Rattle.go_bench_text.specs.Spellings.{IsPartedAt}
use Rattle.go_bench_text.proofs.spelling.first_parts.Given as goal

abbrev pub invariant-loop-at : goal.invariant-loop-at
invariant-loop-at l = (pkg name : List ℕ) → length pkg < l.at → ¬ IsPartedAt l.test pkg name
