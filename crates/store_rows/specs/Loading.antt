-- What rows stand for, one after another, and the first row that stands for nothing.
use Rattle.std.specs.Prelude.{◌≡◌, ℕ, ◌-◌, ◌≤◌, List, [], ◌∷◌, take, slice_get, Some}

-- the rows lead from one value to another, each by what a row does
abbrev pub LeadsTo : {S : Type 0} → (S → List ℕ → S → Type 0) → S → List (List ℕ) → S → Type 0
LeadsTo does before [] after = after ≡ before
LeadsTo {S = S} does before (row ∷ rows) after =
    (next : S) × does before row next × LeadsTo does next rows after

-- row k, from 1, leads from one value to another
abbrev pub Takes : {S : Type 0} → (S → List ℕ → S → Type 0) → S → List (List ℕ) → ℕ → S → Type 0
Takes does before rows k after =
    (row : List ℕ) × (slice_get rows (k - 1) ≡ Some row) × does before row after

-- row k, from 1, does nothing with a value
abbrev pub IsRefused : {S : Type 0} → (S → List ℕ → S → Type 0) → S → List (List ℕ) → ℕ → Type 0
IsRefused {S = S} does before rows k =
    (row : List ℕ) × (slice_get rows (k - 1) ≡ Some row) × ((after : S) → ¬ does before row after)

-- row k, from 1, is the first that does nothing: the rows before it led to a value that refuses it
abbrev pub IsBad : {S : Type 0} → (S → List ℕ → S → Type 0) → S → List (List ℕ) → ℕ → Type 0
IsBad {S = S} does before rows k =
    (1 ≤ k) × ((reached : S) × LeadsTo does before (take (k - 1) rows) reached × IsRefused does reached rows k)
