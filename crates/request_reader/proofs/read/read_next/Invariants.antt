use Rattle.std.proofs.Common.{ℕ, ◌-◌, ◌≤◌, List, []}
use Rattle.request_reader.specs.{Scripts.{ArePieces, input_limit}, Passes.Moves}
use Rattle.request_reader.proofs.read.read_next.Given as goal

-- pieces that ask nothing were passed
abbrev pub invariant-loop-asked : goal.invariant-loop-asked
invariant-loop-asked g l =
    ((passed : List ℕ) × ArePieces passed []
    × Moves l.initial.lines l.lines (g.S.Source.left l.initial.source) (g.S.Source.left l.source) passed)
    × (g.S.Source.faults l.initial.source ≤ g.S.Source.faults l.source)

abbrev pub decreases-loop-asked : goal.decreases-loop-asked
decreases-loop-asked g l = input_limit - l.lines.before
