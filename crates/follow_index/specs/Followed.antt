-- The regressions of a history, with their states.
use Rattle.std.specs.Prelude.{ℕ, ◌+◌, List, [], ◌∷◌}
use Rattle.history_model.specs.{declared.entries.Entry.Entry, declared.events.Raised.Raised, Regressions.{regressions, state_of}}
use Rattle.follow_index.specs.declared.regressions.Followed.{Followed}

-- these changes with their states, from this number on
abbrev pub followed_from : List Entry → ℕ → List Raised → List Followed
followed_from h number [] = []
followed_from h number (r ∷ rs) = record { raised = r; state = state_of number h } ∷ followed_from h (number + 1) rs

-- all regressions of a history, by number
abbrev pub followed : List Entry → List Followed
followed h = followed_from h 1 (regressions h)
