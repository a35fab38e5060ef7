-- Positions with some samples more have so many values more.
use Rattle.std.proofs.{Common.{◌≡◌, ◌+◌, List, [], ◌∷◌, length, arith}, lemmas.Grind.common_steps}
use Rattle.segment_model.{specs.Segments.{Position, values_of}, specs.Edits.inserted, proofs.Inserted.count-inserted}
use Rattle.history_model.specs.{Laws.{observed, with_all}, Positions.Brought}

pub all-more : (xs : List Brought) (points : List Position) → length (values_of (with_all xs points)) ≡ length (values_of points) + length xs
all-more [] points = omega arith
all-more (x ∷ xs) points = grind (arith, common_steps, inserted, count-inserted, all-more xs (inserted x.commit (observed x) points))
