-- What the lines of journals say, without their line feeds.
use Rattle.std.specs.{Prelude.{◌≡◌, ℕ, ◌^◌, ◌<◌, List, [], ◌∷◌, ◌++◌, length}, List.AllByRecursion}
use Rattle.line_text.specs.Names.{IsName}
use Rattle.history_model.specs.declared.entries.{Author.Author, Placed.Placed}
use Rattle.history_model.specs.declared.entries.Author.TheVariants as author
use Rattle.track_entry.specs.Texts.{IsEntry}
use Rattle.journal_lines.specs.Texts.{Journal, head_line, entry_line}

-- the line says that this machine has so many entries
pub record IsHead (line machine : List ℕ) (count : ℕ) : Type 0 where
  pub named : IsName machine
  pub fits : count < 2 ^ 64
  pub text : line ++ 10 ∷ [] ≡ head_line machine count

-- the number of a script or worker fits a byte
abbrev pub IsAuthor : Author → Type 0
IsAuthor author.Kept = Unit {0}
IsAuthor (author.Script i) = i < 2 ^ 8
IsAuthor (author.Recompute i) = i < 2 ^ 8
IsAuthor (author.Bisect i) = i < 2 ^ 8

-- the line says that this is the entry of the step
pub record IsStep (step : ℕ) (line : List ℕ) (p : Placed) : Type 0 where
  pub author : IsAuthor p.author
  pub entry : IsEntry p.entry
  pub text : line ++ 10 ∷ [] ≡ entry_line step p

-- an entry that a line can say
pub record HasLine (p : Placed) : Type 0 where
  pub author : IsAuthor p.author
  pub entry : IsEntry p.entry

-- a journal that lines can say
pub record HasLines (j : Journal) : Type 0 where
  pub named : IsName j.machine
  pub fits : length j.history < 2 ^ 64
  pub each : AllByRecursion HasLine j.history
