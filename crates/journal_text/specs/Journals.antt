-- The text of a journal: a line with the machine and the number of its entries, and a line for each.
use Rattle.std.specs.{Prelude.{ℕ, List, ◌++◌, length}, List.flat_map}
pub use Rattle.journal_lines.specs.Texts.{author_word, entry_line, lines_from, head_line}
use Rattle.track_model.specs.Tracks.{Track}

abbrev pub journal_text : Track → List ℕ
journal_text t = head_line t.machine (length t.history) ++ lines_from 1 t.history

-- the journals of machines, one after another
abbrev pub journals_text : List Track → List ℕ
journals_text tracks = flat_map journal_text tracks
