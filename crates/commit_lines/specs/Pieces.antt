-- Readers of names, which have no limit of their own. No public contract cites this.
use Rattle.line_pieces.specs.Pieces.{Reading}
use Rattle.commit_lines.specs.{declared.reader.Reader.Reader, HasRead.HasRead, Stops.rules}

abbrev pub reading : Reading Reader
reading = record {
  has_read = HasRead;
  whole_lines = λ reader. reader.whole_lines;
  most = λ reader. 0;
  rules = λ most. rules;
}
