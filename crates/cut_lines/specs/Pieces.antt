-- Readers of cut lines. No public contract cites this.
use Rattle.line_pieces.specs.Pieces.{Reading}
use Rattle.cut_lines.specs.{declared.reader.Reader.Reader, HasRead.HasRead, Stops.rules}

abbrev pub reading : Reading Reader
reading = record {
  has_read = HasRead;
  whole_lines = λ reader. reader.whole_lines;
  most = λ reader. reader.most;
  rules = rules;
}
