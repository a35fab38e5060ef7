use Rattle.std.proofs.Common.{◌<◌, ℕ, [], length, get_or}
use Rattle.name_index.specs.Placed.{IsAt}
use Rattle.name_index.proofs.places.Places.of.Given as goal

-- the names so far are found
abbrev pub invariant-loop-place : goal.invariant-loop-place
invariant-loop-place l = ((i : ℕ) → i < l.place → IsAt l.places (get_or l.names i []) i) × (0 < length l.places.slots.items)
