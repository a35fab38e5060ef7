use Rattle.std.proofs.Common.{List, ◌≤◌, length, drop}
use Rattle.json_text.specs.{Tree.Tree, Machine.Frame, Reached.{Carries, word_mode}}
use Rattle.json_text.proofs.token.read_word.Given as goal

abbrev pub invariant-loop-letter : goal.invariant-loop-letter
invariant-loop-letter l = record {
  low : l.initial.place ≤ l.place;
  high : l.place ≤ length l.bytes;
  reads : (tree : Tree) (frames : List Frame) → Carries l.bytes l.initial.place l.place (word_mode l.left tree, frames) (word_mode (drop l.letter-index l.left) tree, frames);
}
