use Rattle.std.{proofs.Common.length, specs.Vec.Iter.into_iter_items}
use Rattle.play_crew.proofs.seating.+seat_rest.Given as goal

abbrev pub decreases-seat_rest : goal.decreases-seat_rest
decreases-seat_rest g l = length (into_iter_items l.passes)
