-- The states of a regression, their words, and the table of moves between them.
use Rattle.std.specs.Prelude.{ℕ, Bool, true, false, List, codes}
use Rattle.regression_state.specs.declared.states.State.{State, TheVariants.{Detected, Staged, Active, NotToBeFixed, Ignored, Verify, Fixed}}

-- whether a regression may move from one state to another: the table of moves, from each state to the states named
abbrev pub is_move : State → State → Bool
is_move Detected to = elim to [ Staged ↦ true | Active ↦ true | Ignored ↦ true | _ ↦ false ]
is_move Staged to = elim to [ Detected ↦ true | Active ↦ true | NotToBeFixed ↦ true | Ignored ↦ true | _ ↦ false ]
is_move Active to = elim to [ NotToBeFixed ↦ true | Ignored ↦ true | Verify ↦ true | _ ↦ false ]
is_move NotToBeFixed to = elim to [ Active ↦ true | _ ↦ false ]
is_move Ignored to = elim to [ Detected ↦ true | Active ↦ true | _ ↦ false ]
is_move Verify to = elim to [ Active ↦ true | Fixed ↦ true | _ ↦ false ]
is_move Fixed to = elim to [ Active ↦ true | _ ↦ false ]

-- the word of a state
abbrev pub word : State → List ℕ
word Detected = codes "detected"
word Staged = codes "staged"
word Active = codes "active"
word NotToBeFixed = codes "not_to_be_fixed"
word Ignored = codes "ignored"
word Verify = codes "verify"
word Fixed = codes "fixed"
