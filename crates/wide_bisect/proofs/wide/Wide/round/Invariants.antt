use Rattle.std.{proofs.Common.{◌≡◌, map}, specs.List.range_with_len}
use Rattle.wide_bisect.specs.Searches.{asks, place_in_round}
use Rattle.wide_bisect.proofs.wide.Wide.round.Given as goal

abbrev pub invariant-loop-i : goal.invariant-loop-i
invariant-loop-i l = (l.places.items ≡ map (place_in_round l.self) (range_with_len 1 l.i)) × (l.i-end ≡ asks l.self)
