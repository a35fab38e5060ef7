-- No public contract cites this. What the reader answers, in terms of the machine.
use Rattle.std.specs.Prelude.{◌≡◌, ℕ, ◌+◌, ◌<◌, ◌⊎◌, List, length, take, Some, None, Result, Ok, Err}
use Rattle.json_text.specs.{View.tree_of, Reached.{ended_tree, Reaches}, Places.most_levels, Machine.{State, run, start, levels}, declared.tree.Json.Json}
use Rattle.json_text.specs.declared.{state.Stop.Stop, reading.JsonFault.JsonFault, reading.JsonFault.TheVariants.{NotText, NotJson, TooDeep, NoMemory}}
use Rattle.json_text.specs.declared.state.Stop.TheVariants as stops

-- the fault of a stop at a place
abbrev pub fault_at : Stop → ℕ → JsonFault
fault_at stops.Refused k = NotJson k
fault_at stops.TooDeep k = TooDeep k
fault_at stops.NoMemory k = NoMemory

-- the machine goes as far as the place, and no further, or the text ends there unfinished
abbrev pub StopsAt : List ℕ → ℕ → Type 0
StopsAt bytes k = (state : State) × Reaches (take k bytes) state × (((k < length bytes) × (run (take (k + 1) bytes) start ≡ None)) ⊎ ((k ≡ length bytes) × (ended_tree state ≡ None)))

-- the machine goes beyond the place, to more levels than the limit
abbrev pub DeepAt : List ℕ → ℕ → Type 0
DeepAt bytes k = (before after : State) × (k < length bytes) × Reaches (take k bytes) before × (run (take (k + 1) bytes) start ≡ Some after) × (most_levels < levels after)

-- what a fault says of the machine
abbrev pub Fault : JsonFault → List ℕ → Type 0
Fault (NotText k) bytes = ⊥
Fault (NotJson k) bytes = StopsAt bytes k
Fault (TooDeep k) bytes = DeepAt bytes k
Fault NoMemory bytes = Unit {0}

-- what an answer says of the machine: it ends with the tree, or stops with the fault
abbrev pub Outcome : Result Json JsonFault → List ℕ → Type 0
Outcome (Ok json) bytes = (state : State) × Reaches bytes state × (ended_tree state ≡ Some (tree_of json))
Outcome (Err fault) bytes = Fault fault bytes
