use Rattle.std.proofs.Common.{take}
use Rattle.order_index.specs.Kept.{ArePlaced}
use Rattle.order_index.proofs.mapped.places_of.Given as goal

-- the places so far are those of the declarations before the place
abbrev pub invariant-loop-place : goal.invariant-loop-place
invariant-loop-place l = ArePlaced (take l.place l.commits) l.places
