-- No public contract cites this. The reader's state as the machine's, and what a token of it gives.
use Rattle.std.specs.Prelude.{◌≡◌, ℕ, ◌+◌, ◌<◌, ◌≤◌, ◌⊎◌, false, List, [], ◌∷◌, length, slice_index, Option, Some, None, IsTrue, Result, Ok, Err}
use Rattle.json_text.specs.declared.state.{Open.Open, Awaits.Awaits, Awaits.TheVariants.{Value, FirstItem, FirstKey, NextKey, Colon, Ended}, Digits.Digits}
use Rattle.json_text.specs.declared.state.Open.TheVariants as open_frame
use Rattle.json_text.specs.{declared.state.Stop.Stop, declared.state.Stop.TheVariants.{Refused, TooDeep, NoMemory}, View.{tree_of, items_view, members_view}}
use Rattle.json_text.specs.{Places.most_levels, Reached.{Stands, Carries, StopsDigits, ReadsText, StopsText}, Outcome.{Fault, fault_at}}
use Rattle.json_text.specs.Machine as machine
use Rattle.json_text.specs.Bytes as byte

-- an entry of the stack, as the machine has it
abbrev pub frame_of : Open → machine.Frame
frame_of (open_frame.List items) = machine.in_list (items_view items)
frame_of (open_frame.Member members key) = machine.in_member (members_view members) key

-- a stack, whose last is the innermost, on top of these frames
abbrev pub frames_onto : List Open → List machine.Frame → List machine.Frame
frames_onto [] frames = frames
frames_onto (outer ∷ inner) frames = frames_onto inner (frame_of outer ∷ frames)

-- a stack, as the machine has it
abbrev pub frames_of : List Open → List machine.Frame
frames_of stack = frames_onto stack []

-- what has to come, as the machine has it
abbrev pub mode_of : Awaits → machine.Mode
mode_of Value = machine.value
mode_of FirstItem = machine.first_item
mode_of FirstKey = machine.first_key
mode_of (NextKey members) = machine.next_key (members_view members)
mode_of (Colon members key) = machine.colon (members_view members) key
mode_of (Ended value) = machine.ended (tree_of value)

-- The machine has no state after a byte that is refused, and one of more levels than the limit after one that goes too deep; where memory
-- ran out nothing is said.
abbrev pub Stops : Stop → Option machine.State → Type 0
Stops Refused after = after ≡ None
Stops TooDeep after = (state : machine.State) × (after ≡ Some state) × (most_levels < machine.levels state)
Stops NoMemory after = Unit {0}

-- what a byte gave, with what it left open, is what the machine does, and within the limit of levels
abbrev pub StepGives : Result Awaits Stop → List Open → Option machine.State → Type 0
StepGives (Ok awaits) stack after = (after ≡ Some (mode_of awaits, frames_of stack)) × (machine.own_level (mode_of awaits) + length stack ≤ most_levels)
StepGives (Err stop) stack after = Stops stop after

-- A token led from one place on to another, where the machine stands in this state; or reading stops there for good.
abbrev pub Arrives : Result Awaits Stop → List ℕ → ℕ → ℕ → List Open → Type 0
Arrives (Ok awaits) bytes i j stack = (i < j) × Stands bytes j (mode_of awaits, frames_of stack) × (machine.own_level (mode_of awaits) + length stack ≤ most_levels)
Arrives (Err stop) bytes i j stack = Fault (fault_at stop j) bytes

-- from the first byte of a number on, a spelling that goes on with it
abbrev pub SpellsNumber : List ℕ → ℕ → ℕ → Digits → List ℕ → Type 0
SpellsNumber bytes i j last spelling = (first : Digits) × (machine.first_digit (slice_index bytes i) ≡ Some first)
    × ((frames : List machine.Frame) → Carries bytes (i + 1) j (machine.digits first (slice_index bytes i ∷ []), frames) (machine.digits last spelling, frames)) × StopsDigits bytes j last

-- a number with this spelling stands between these places
abbrev pub ReadsNumber : List ℕ → ℕ → ℕ → List ℕ → Type 0
ReadsNumber bytes i j spelling = (i < j) × ((last : Digits) × SpellsNumber bytes i j last spelling × IsTrue (machine.may_end last))

-- or none begins there, or none ends
abbrev pub StopsNumber : Stop → List ℕ → ℕ → ℕ → Type 0
StopsNumber Refused bytes i j = ((j ≡ i) × (machine.first_digit (slice_index bytes i) ≡ None))
    ⊎ ((last : Digits) × (spelling : List ℕ) × SpellsNumber bytes i j last spelling × (machine.may_end last ≡ false))
StopsNumber TooDeep bytes i j = ⊥
StopsNumber NoMemory bytes i j = Unit {0}

-- a text between quotes stands between these places
abbrev pub ReadsQuoted : List ℕ → ℕ → ℕ → List ℕ → Type 0
ReadsQuoted bytes i j spelled = (i < j) × (slice_index bytes i ≡ byte.quote) × ReadsText bytes (i + 1) j spelled

-- or none begins there, or none ends
abbrev pub StopsQuoted : Stop → List ℕ → ℕ → ℕ → Type 0
StopsQuoted Refused bytes i j = ((j ≡ i) × (slice_index bytes i ≡ byte.quote → ⊥)) ⊎ ((slice_index bytes i ≡ byte.quote) × StopsText Refused bytes (i + 1) j)
StopsQuoted TooDeep bytes i j = ⊥
StopsQuoted NoMemory bytes i j = Unit {0}
