-- No public contract cites this. How many levels lie in one another in what the machine has read.
use Rattle.std.specs.Prelude.{ℕ, ◌+◌, List, [], ◌∷◌, max}
use Rattle.json_text.specs.Tree.{nesting, items_nesting, members_nesting}
use Rattle.json_text.specs.Machine.{Frame, in_list, in_member, as_value, as_key, Mode, value, first_item, first_key, next_key, colon, letters, digits, content, ended, State}

-- the nesting of the whole, with this many levels inside the frames
abbrev pub around : List Frame → ℕ → ℕ
around [] inner = inner
around (in_list items ∷ frames) inner = around frames (1 + max (items_nesting items) inner)
around (in_member members key ∷ frames) inner = around frames (1 + max (members_nesting members) inner)

-- the levels of what is open or read in a mode, inside its frames
abbrev pub inner_depth : Mode → ℕ
inner_depth value = 0
inner_depth first_item = 1
inner_depth first_key = 1
inner_depth (next_key members) = 1 + members_nesting members
inner_depth (colon members key) = 1 + members_nesting members
inner_depth (letters left tree) = nesting tree
inner_depth (digits place spelling) = 0
inner_depth (content as_value place bytes) = 0
inner_depth (content (as_key members) place bytes) = 1 + members_nesting members
inner_depth (ended tree) = nesting tree

-- the least nesting of a text that goes on from this state
abbrev pub depth : State → ℕ
depth state = around state.1 (inner_depth state.0)
