use Rattle.std.{proofs.Common.{◌≡◌, map}, specs.List.range_with_len}
use Rattle.wide_bisect.specs.Searches.{asks, said_at}
use Rattle.wide_bisect.proofs.wide.Wide.said.Given as goal

abbrev pub invariant-loop-i : goal.invariant-loop-i
invariant-loop-i l = (l.said.items ≡ map (said_at l.self l.statuses) (range_with_len 1 l.i)) × (l.i-end ≡ asks l.self)
