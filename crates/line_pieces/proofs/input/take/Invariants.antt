use Rattle.std.proofs.Common.{◌≡◌, ℕ, ◌+◌, ◌≤◌, List, ◌++◌, length}
use Rattle.line_pieces.specs.Pieces.{ReadsMore}
use Rattle.line_pieces.proofs.input.take.Given as goal

-- the first bytes were taken
abbrev pub invariant-loop-end : goal.invariant-loop-end
invariant-loop-end g l =
    (done : List ℕ) × (done ++ l.rest ≡ l.bytes)
    × (g.R.LineReader.reading.whole_lines l.reader ≤ g.R.LineReader.reading.whole_lines l.initial.reader + length done)
    × ReadsMore g.R.LineReader.reading done l.initial.reader l.reader
    × (g.R.LineReader.reading.most l.reader ≡ g.R.LineReader.reading.most l.initial.reader)

abbrev pub decreases-loop-end : goal.decreases-loop-end
decreases-loop-end g l = length l.rest
