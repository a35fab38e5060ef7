-- The text of journals: for each machine a line, and a line for each of its entries.
use Rattle.std.specs.{Prelude.{ℕ, ◌+◌, List, [], ◌∷◌, ◌++◌, length, codes, decimal}, List.flat_map}
use Rattle.line_text.specs.Names.{spelling}
use Rattle.history_model.specs.declared.entries.{Author.Author, Placed.Placed}
use Rattle.history_model.specs.declared.entries.Author.TheVariants as author
use Rattle.track_entry.specs.Texts.{entry_text}

-- k for a kept entry, else s, r or b and the number of the script or worker
abbrev pub author_word : Author → List ℕ
author_word author.Kept = codes "k"
author_word (author.Script i) = codes "s" ++ decimal i
author_word (author.Recompute i) = codes "r" ++ decimal i
author_word (author.Bisect i) = codes "b" ++ decimal i

-- the line of an entry: its step, its author and its text
abbrev pub entry_line : ℕ → Placed → List ℕ
entry_line step p =
    decimal step ++ 32 ∷ (author_word p.author ++ 32 ∷ (entry_text p.entry ++ 10 ∷ []))

-- the lines of entries, from a step on
abbrev pub lines_from : ℕ → List Placed → List ℕ
lines_from step [] = []
lines_from step (p ∷ ps) = entry_line step p ++ lines_from (step + 1) ps

-- the line of the machine
abbrev pub head_line : List ℕ → ℕ → List ℕ
head_line machine count =
    codes "machine " ++ (spelling machine ++ (codes " steps " ++ (decimal count ++ 10 ∷ [])))

-- a machine with its whole history
pub record Journal : Type 0 where
  pub machine : List ℕ
  pub history : List Placed

-- the text of a journal, and of journals one after another
abbrev pub text_of : Journal → List ℕ
text_of j = head_line j.machine (length j.history) ++ lines_from 1 j.history

abbrev pub texts_of : List Journal → List ℕ
texts_of js = flat_map text_of js
