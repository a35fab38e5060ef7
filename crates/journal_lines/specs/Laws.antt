-- What holds of all lines of journals.
use Rattle.std.specs.{Prelude.{◌≡◌, ℕ, List}, List.AllByRecursion}
use Rattle.history_model.specs.declared.entries.Placed.{Placed}
use Rattle.journal_lines.specs.{Texts.{Journal, texts_of}, Lines.{IsHead, IsStep, HasLines}}

-- a line is that of one machine at most
abbrev pub OneHead : Type 0
OneHead = (line machine other : List ℕ) (count many : ℕ) → IsHead line machine count → IsHead line other many
    → (machine ≡ other) × (count ≡ many)

-- a line is that of one entry of a step at most
abbrev pub OneStep : Type 0
OneStep = (step : ℕ) (line : List ℕ) (p q : Placed) → IsStep step line p → IsStep step line q → p ≡ q

-- bytes are the text of one list of journals at most
abbrev pub OneText : Type 0
OneText = (js others : List Journal) → AllByRecursion HasLines js → AllByRecursion HasLines others
    → texts_of js ≡ texts_of others → js ≡ others
