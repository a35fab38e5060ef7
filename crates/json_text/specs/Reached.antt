-- No public contract cites this. Where the machine stands after some of the bytes, and what leads it from one place to another.
use Rattle.std.specs.Prelude.{◌≡◌, ℕ, ◌<◌, ◌≤◌, List, [], ◌∷◌, ◌++◌, length, take, slice_index, slice_range, Option, Some, None}
use Rattle.json_text.specs.{Tree.Tree, Places.most_levels}
use Rattle.json_text.specs.Machine.{Frame, Role, Mode, letters, digits, content, ended, State, step, run, start, finish, text_ended, moves, digits_after}
use Rattle.json_text.specs.{Depth.depth, declared.state.Digits.Digits, declared.state.Within.Within, declared.state.Within.TheVariants.Plain}
use Rattle.json_text.specs.declared.state.Move.TheVariants as moving
use Rattle.json_text.specs.declared.state.Stop.{Stop, TheVariants.{Refused, TooDeep, NoMemory}}

-- the tree, where a text ends in this state
abbrev pub ended_tree : State → Option Tree
ended_tree state = finish state.0 state.1

-- the first bytes lead to a state within the limit
abbrev pub Reaches : List ℕ → State → Type 0
Reaches bytes state = (run bytes start ≡ Some state) × (depth state ≤ most_levels)

-- from a place on, one state goes on as the other
pub record Alike (bytes : List ℕ) (k : ℕ) (one other : State) : Type 0 where
  pub next : k < length bytes → step (slice_index bytes k) one.0 one.1 ≡ step (slice_index bytes k) other.0 other.1
  pub finish : k ≡ length bytes → ended_tree one ≡ ended_tree other

-- the bytes before this place lead to a state that goes on as this one
abbrev pub Stands : List ℕ → ℕ → State → Type 0
Stands bytes k held = (state : State) × Reaches (take k bytes) state × Alike bytes k state held

-- a machine that is in one state at one place is in the other at the other
abbrev pub Carries : List ℕ → ℕ → ℕ → State → State → Type 0
Carries bytes i j before after = run (take i bytes) start ≡ Some before → run (take j bytes) start ≡ Some after

-- a word's letters that have to come, or its value where none are left
abbrev pub word_mode : List ℕ → Tree → Mode
word_mode [] tree = ended tree
word_mode (letter ∷ left) tree = letters (letter ∷ left) tree

-- the letters of a word stand between these places
abbrev pub ReadsWord : List ℕ → ℕ → ℕ → List ℕ → Type 0
ReadsWord bytes i j left = (tree : Tree) (frames : List Frame) → Carries bytes i j (word_mode left tree, frames) (ended tree, frames)

-- or some of them, and then another byte
abbrev pub StopsWord : List ℕ → ℕ → ℕ → List ℕ → Type 0
StopsWord bytes i j left = (letter : ℕ) × (rest : List ℕ) × ((tree : Tree) (frames : List Frame) → Carries bytes i j (word_mode left tree, frames) (letters (letter ∷ rest) tree, frames))
    × (j < length bytes → slice_index bytes j ≡ letter → ⊥)

-- what stands between these places goes on with a number to another place in it, whatever was spelled before
abbrev pub ReadsDigits : List ℕ → ℕ → ℕ → Digits → Digits → Type 0
ReadsDigits bytes i j first last = (spelling : List ℕ) (frames : List Frame) → Carries bytes i j (digits first spelling, frames) (digits last (spelling ++ slice_range bytes i j), frames)

-- no byte goes on with the number here
abbrev pub StopsDigits : List ℕ → ℕ → Digits → Type 0
StopsDigits bytes j last = j < length bytes → digits_after (slice_index bytes j) last ≡ None

-- what stands between these places goes on with a text by these bytes, from one place in it to another
abbrev pub ReadsContent : List ℕ → ℕ → ℕ → Within → Within → List ℕ → Type 0
ReadsContent bytes i j first last added = (role : Role) (held : List ℕ) (frames : List Frame) → Carries bytes i j (content role first held, frames) (content role last (held ++ added), frames)

-- what stands between these places ends a text with these bytes
abbrev pub ReadsText : List ℕ → ℕ → ℕ → List ℕ → Type 0
ReadsText bytes i j spelled = (role : Role) (frames : List Frame) → Carries bytes i j (content role Plain [], frames) (text_ended role spelled, frames)

-- or goes on with it, and no byte goes on behind
abbrev pub StopsText : Stop → List ℕ → ℕ → ℕ → Type 0
StopsText Refused bytes i j = (last : Within) × (added : List ℕ) × ReadsContent bytes i j Plain last added × (j < length bytes → moves (slice_index bytes j) last ≡ moving.Refused)
StopsText TooDeep bytes i j = ⊥
StopsText NoMemory bytes i j = Unit {0}
