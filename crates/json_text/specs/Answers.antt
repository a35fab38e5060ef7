-- What each answer of the reader says of the bytes.
use Rattle.std.specs.Prelude.{ℕ, List, Result, Ok, Err}
use Rattle.json_text.specs.{Tree.Tree, Places.{Reads, IsNotText, IsNotJson, IsTooDeep}, declared.reading.JsonFault.JsonFault}
use Rattle.json_text.specs.declared.reading.JsonFault.TheVariants.{NotText, NotJson, TooDeep, NoMemory}

-- what a fault says of the bytes
abbrev pub IsFault : List ℕ → JsonFault → Type 0
IsFault bytes (NotText k) = IsNotText bytes k
IsFault bytes (NotJson k) = IsNotJson bytes k
IsFault bytes (TooDeep k) = IsTooDeep bytes k
IsFault bytes NoMemory = Unit {0}

-- The answer that these bytes are due: their tree, or a fault at its place. Want of memory is never due.
abbrev pub IsDue : List ℕ → Result Tree JsonFault → Type 0
IsDue bytes (Ok tree) = Reads bytes tree
IsDue bytes (Err (NotText k)) = IsNotText bytes k
IsDue bytes (Err (NotJson k)) = IsNotJson bytes k
IsDue bytes (Err (TooDeep k)) = IsTooDeep bytes k
IsDue bytes (Err NoMemory) = ⊥
