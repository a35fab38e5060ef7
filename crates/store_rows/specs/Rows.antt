-- The rows of a store: a machine, or an entry of a machine.
use Rattle.std.specs.Prelude.{◌≡◌, ℕ, List, ◌∷◌, ◌++◌, drop, codes, Option, Some, None}
use Rattle.line_text.specs.Names.{spelling, IsName}

-- a row as what it says; an entry's text is whatever stands behind the machine
pub data Row : Type 0 where
  machine_row : List ℕ → Row
  entry_row : List ℕ → List ℕ → Row

abbrev pub row_text : Row → List ℕ
row_text (machine_row machine) = codes "machine " ++ spelling machine
row_text (entry_row machine text) = codes "entry " ++ (spelling machine ++ 32 ∷ text)

-- the machine of a row
abbrev pub machine_of : Row → List ℕ
machine_of (machine_row machine) = machine
machine_of (entry_row machine text) = machine

-- the bytes are the row's, and its machine has a name
pub record IsRowOf (bytes : List ℕ) (row : Row) : Type 0 where
  pub text : bytes ≡ row_text row
  pub named : IsName (machine_of row)

-- the row that bytes are, if their machine is this one, and an entry's text begins here
abbrev pub row_at : List ℕ → List ℕ → Option ℕ → Row
row_at bytes machine None = machine_row machine
row_at bytes machine (Some at) = entry_row machine (drop at bytes)
