-- Exported: positions that are filled from points, one after the other.
use Rattle.std.proofs.{Common.{◌≡◌, List, ℤ, ℕ, [], ◌∷◌, ◌++◌, ◌+◌, ◌<◌, ◌≤◌, take, length, refl, arith}, lemmas.Grind.common_steps}
use Rattle.segment_model.specs.{Segments.{Position, segment}, Limits.WithinLimits, Values.{AreWithinLimits, values_by_position}}
use Rattle.segment_model.proofs.Values.{next-of-points, first-within, points-within}

pub filled-next : (points : List Position) (i : ℕ) (before after : List (List ℤ)) (values : List ℤ) → i < length points → before ≡ take i (values_by_position points) → values ≡ segment points i (i + 1)
    → after ≡ before ++ values ∷ [] → after ≡ take (i + 1) (values_by_position points)
filled-next points i before after values lt are is e = grind (arith, common_steps, take, next-of-points)

pub filled-within : (points : List Position) → WithinLimits points → (i : ℕ) (before : List (List ℤ)) (values : List ℤ) → i < length points
    → before ≡ take i (values_by_position points) → values ≡ segment points i (i + 1) → AreWithinLimits (before ++ values ∷ [])
filled-within points within i before values lt are is =
    let e : before ++ values ∷ [] ≡ take (i + 1) (values_by_position points) = filled-next points i before (before ++ values ∷ []) values lt are is refl in
    rw e (first-within (values_by_position points) (i + 1) (points-within points within))

pub filled-all : (points : List Position) (i : ℕ) (ps : List (List ℤ)) → length points ≤ i → i ≤ length points → ps ≡ take i (values_by_position points) → ps ≡ values_by_position points
filled-all points i ps low high are = grind (arith, common_steps)
