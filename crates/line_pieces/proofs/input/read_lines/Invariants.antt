use Rattle.std.proofs.Common.{◌≡◌, length}
use Rattle.line_pieces.specs.Pieces.{Gave}
use Rattle.line_pieces.proofs.input.read_lines.Given as goal

abbrev pub invariant-loop-buffer : goal.invariant-loop-buffer
invariant-loop-buffer g l =
    Gave g.I.Source g.R.LineReader.reading l.initial.input l.input l.reader l.allowed × (length l.buffer.items ≡ 65_536)
    × (g.R.LineReader.reading.most l.reader ≡ g.R.LineReader.reading.most l.initial.reader)

abbrev pub decreases-loop-buffer : goal.decreases-loop-buffer
decreases-loop-buffer g l = l.allowed
