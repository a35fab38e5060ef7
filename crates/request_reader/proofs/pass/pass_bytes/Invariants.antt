use Rattle.std.proofs.Common.{ℕ, ◌≡◌, ◌+◌, ◌-◌, ◌≤◌, List, length}
use Rattle.request_reader.specs.{Scripts.input_limit, Passes.Moves}
use Rattle.request_reader.proofs.pass.pass_bytes.Given as goal

-- so many were passed that the others are left
abbrev pub invariant-loop-rest : goal.invariant-loop-rest
invariant-loop-rest g l =
    ((passed : List ℕ) × Moves l.initial.lines l.lines (g.S.Source.left l.initial.source) (g.S.Source.left l.source) passed
    × (length passed + l.left ≡ l.fn.count))
    × (g.S.Source.faults l.initial.source ≤ g.S.Source.faults l.source)

abbrev pub decreases-loop-rest : goal.decreases-loop-rest
decreases-loop-rest g l = input_limit - (l.lines.before + length l.lines.kept)
