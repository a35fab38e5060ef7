-- A commit has a position where a value was put in at it.
use Rattle.std.proofs.{Common.{◌≡◌, ℕ, true, List, [], ◌∷◌, refl, arith}, lemmas.Bool.eq-eqb, lemmas.Grind.common_steps}
use Rattle.segment_model.specs.{Segments.{Observation, Position}, Edits.{inserted, has_commit}}

pub has-inserted : (commit : ℕ) (x : Observation) (points : List Position) → has_commit commit (inserted commit x points) ≡ true
has-inserted commit x [] = rw (eq-eqb commit commit refl) refl
has-inserted commit x (p ∷ points) = grind (arith, common_steps, has-inserted commit x points)
