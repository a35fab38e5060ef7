-- The text of a path.
use Rattle.std.specs.{Prelude.{ℕ, ℤ, List, [], ◌∷◌, ◌++◌, length, flat_map, codes, decimal, if◌then◌else◌, int_lt}, Fmt.signed_decimal}
use Rattle.cost_certificate.specs.Text.{row, text_of}
use Rattle.penalty_path.specs.declared.stretch.Stretch.{Stretch}

-- the line of how many stretches there are
abbrev pub count_row : ℕ → List ℕ
count_row count = row (codes "stretches") (decimal count ∷ [])

-- the line of a stretch's penalties
abbrev pub ends_row : ℤ → ℤ → List ℕ
ends_row from to = row (codes "stretch") (signed_decimal from ∷ signed_decimal to ∷ [])

-- a stretch: its penalties, and its certificates, of which there is one where the penalties are equal
abbrev pub stretch_text : Stretch → List ℕ
stretch_text s = ends_row s.from s.to ++ text_of s.first ++ (if int_lt s.from s.to then text_of s.last else [])

-- a path: how many stretches there are, and each
abbrev pub path_text : List Stretch → List ℕ
path_text stretches = count_row (length stretches) ++ flat_map stretch_text stretches
