-- The line that an audit prints.
use Rattle.std.specs.Prelude.{ℕ, List, [], ◌∷◌, ◌++◌, codes, decimal}

-- the files fit together: so many machines, entries and requests
abbrev pub shown_text : (machines steps requests : ℕ) → List ℕ
shown_text machines steps requests =
    (codes "audited machines " ++ decimal machines) ++ (codes " steps " ++ decimal steps)
    ++ (codes " requests " ++ decimal requests) ++ 10 ∷ []
