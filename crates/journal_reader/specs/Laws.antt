-- What holds of all texts of journals.
use Rattle.std.specs.Prelude.{◌≡◌, ℕ, List}
use Rattle.journal_reader.specs.{Journals.{Journal, IsTextOf}, Reading.IsRefusedAt}

-- bytes are the text of one list of journals at most
abbrev pub OneReading : Type 0
OneReading = (scripts : ℕ) (bytes : List ℕ) (js others : List Journal) → IsTextOf scripts bytes js → IsTextOf scripts bytes others → js ≡ others

-- the first line that is refused is one at most
abbrev pub OneRefusal : Type 0
OneRefusal = (scripts : ℕ) (bytes : List ℕ) (l m : ℕ) → IsRefusedAt scripts bytes l → IsRefusedAt scripts bytes m → l ≡ m

-- and none is where bytes are the text of journals
abbrev pub NoneRefused : Type 0
NoneRefused = (scripts : ℕ) (bytes : List ℕ) (js : List Journal) (l : ℕ) → IsTextOf scripts bytes js → ¬ IsRefusedAt scripts bytes l
