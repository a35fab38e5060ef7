-- What holds of rows, whatever they stand for.
use Rattle.std.specs.Prelude.{◌≡◌, ℕ, List}
use Rattle.store_rows.specs.{Rows.{Row, IsRowOf}, Loading.{LeadsTo, IsBad}}

-- bytes are one row at most
abbrev pub RowsAreUnique : Type 0
RowsAreUnique =
    (bytes : List ℕ) (one other : Row) → IsRowOf bytes one → IsRowOf bytes other → one ≡ other

-- a row leads from a value to one other at most
abbrev pub IsDetermined : {S : Type 0} → (S → List ℕ → S → Type 0) → Type 0
IsDetermined {S = S} does =
    (before : S) (row : List ℕ) (one other : S)
    → does before row one → does before row other → one ≡ other

-- rows have one outcome at most: they lead to one value at most, one of them at most is the bad one, and never both
pub record HasOneOutcome {S : Type 0} (does : S → List ℕ → S → Type 0) : Type 0 where
  pub value : (before : S) (rows : List (List ℕ)) (one other : S)
      → LeadsTo does before rows one → LeadsTo does before rows other → one ≡ other
  pub bad : (before : S) (rows : List (List ℕ)) (k j : ℕ)
      → IsBad does before rows k → IsBad does before rows j → k ≡ j
  pub either : (before after : S) (rows : List (List ℕ)) (k : ℕ)
      → LeadsTo does before rows after → ¬ IsBad does before rows k
