-- No public contract cites this. What reads JSON text byte by byte: a state says what is open and what has to come. It has no limit of nesting.
use Rattle.std.specs.Prelude.{ℕ, ◌+◌, ◌*◌, Bool, true, false, cond, ◌&&◌, ◌==◌, nat_le, nat_lt, ◌<◌, ◌≤◌, ◌⊎◌, List, [], ◌∷◌, ◌++◌, length, Option, Some, None, option_map, option_and_then}
use Rattle.std.specs.Char.{digit_value, encode_utf8, IsScalar}
use Rattle.json_text.specs.{Tree.{Tree, null, boolean, number, text, list, object, Items, no_items, Members, no_members}, declared.state.Digits.Digits}
use Rattle.json_text.specs.declared.state.Digits.TheVariants.{AfterMinus, AfterZero, InWhole, AfterPoint, InFraction, AfterMark, AfterSign, InExponent}
use Rattle.json_text.specs.declared.state.Within.{Within}
use Rattle.json_text.specs.declared.state.Within.TheVariants.{Plain, AfterBackslash, AfterU, AfterHex, AfterTwoHex, AfterThreeHex, AfterHigh, AfterHighBackslash, AfterHighU, AfterHighHex, AfterHighTwoHex, AfterHighThreeHex}
use Rattle.json_text.specs.{declared.state.Move.Move, declared.state.Move.TheVariants.{Goes, Adds, Spells, Ends, Refused}, Parts.{then_item, then_member}}
use Rattle.json_text.specs.Bytes as byte
use Rattle.json_text.specs.Classes.{is_blank, is_digit, is_leading_digit, is_exponent_mark, is_sign, short_escape, is_hex, is_high_surrogate, pair_of}

-- What is open round a value: a list with the items before it, or an object with the members before it and its key.
pub data Frame : Type 0 where
  in_list : Items → Frame
  in_member : Members → List ℕ → Frame

-- what a text is: a value, or the key that comes after these members
pub data Role : Type 0 where
  as_value : Role
  as_key : Members → Role

-- what has to come, the white space before it left out
pub data Mode : Type 0 where
  value first_item first_key : Mode
  next_key : Members → Mode
  colon : Members → List ℕ → Mode
  letters : List ℕ → Tree → Mode
  digits : Digits → List ℕ → Mode
  content : Role → Within → List ℕ → Mode
  ended : Tree → Mode

-- the mode, and what is open, the innermost first
abbrev pub State : Type 0
State = Mode × List Frame

-- the next place in a number, where the byte goes on with it
abbrev pub digits_after : ℕ → Digits → Option Digits
digits_after b AfterMinus = cond (b == byte.zero_digit) (Some AfterZero) (cond (is_leading_digit b) (Some InWhole) None)
digits_after b AfterZero = cond (b == byte.point) (Some AfterPoint) (cond (is_exponent_mark b) (Some AfterMark) None)
digits_after b InWhole = cond (is_digit b) (Some InWhole) (cond (b == byte.point) (Some AfterPoint) (cond (is_exponent_mark b) (Some AfterMark) None))
digits_after b AfterPoint = cond (is_digit b) (Some InFraction) None
digits_after b InFraction = cond (is_digit b) (Some InFraction) (cond (is_exponent_mark b) (Some AfterMark) None)
digits_after b AfterMark = cond (is_digit b) (Some InExponent) (cond (is_sign b) (Some AfterSign) None)
digits_after b AfterSign = cond (is_digit b) (Some InExponent) None
digits_after b InExponent = cond (is_digit b) (Some InExponent) None

-- the place after a number's first byte
abbrev pub first_digit : ℕ → Option Digits
first_digit b = cond (b == byte.minus) (Some AfterMinus) (cond (b == byte.zero_digit) (Some AfterZero) (cond (is_leading_digit b) (Some InWhole) None))

-- a number may end here
abbrev pub may_end : Digits → Bool
may_end AfterMinus = false
may_end AfterZero = true
may_end InWhole = true
may_end AfterPoint = false
may_end InFraction = true
may_end AfterMark = false
may_end AfterSign = false
may_end InExponent = true

-- the two hex digits begin a low surrogate, none of which stands first
abbrev pub begins_low : ℕ → Bool
begins_low two = nat_le 0xdc two && nat_lt two 0xe0

-- what a code unit does that stands first: a high surrogate waits for its low one
abbrev pub after_unit : ℕ → Move
after_unit unit = cond (is_high_surrogate unit) (Goes (AfterHigh unit)) (Spells unit)

-- what a letter behind a backslash does
abbrev pub escape_moves : Option ℕ → Move
escape_moves (Some b) = Adds b
escape_moves None = Refused

-- the number of the hex digits so far, where another has to come
abbrev pub so_far : Within → Option ℕ
so_far Plain = None
so_far AfterBackslash = None
so_far AfterU = Some 0
so_far (AfterHex one) = Some one
so_far (AfterTwoHex two) = Some two
so_far (AfterThreeHex three) = Some three
so_far (AfterHigh high) = None
so_far (AfterHighBackslash high) = None
so_far (AfterHighU high) = Some 0
so_far (AfterHighHex high) = Some 0xd
so_far (AfterHighTwoHex high two) = Some two
so_far (AfterHighThreeHex high three) = Some three

-- what a hex digit does, which makes the digits so far this number
abbrev pub with_hex : ℕ → Within → Move
with_hex n Plain = Refused
with_hex n AfterBackslash = Refused
with_hex n AfterU = Goes (AfterHex n)
with_hex n (AfterHex one) = cond (begins_low n) Refused (Goes (AfterTwoHex n))
with_hex n (AfterTwoHex two) = Goes (AfterThreeHex n)
with_hex n (AfterThreeHex three) = after_unit n
with_hex n (AfterHigh high) = Refused
with_hex n (AfterHighBackslash high) = Refused
with_hex n (AfterHighU high) = cond (n == 0xd) (Goes (AfterHighHex high)) Refused
with_hex n (AfterHighHex high) = cond (begins_low n) (Goes (AfterHighTwoHex high n)) Refused
with_hex n (AfterHighTwoHex high two) = Goes (AfterHighThreeHex high n)
with_hex n (AfterHighThreeHex high three) = Spells (pair_of high n)

-- what another byte does, where no hex digit has to come
abbrev pub letter_moves : ℕ → Within → Move
letter_moves b Plain = cond (b == byte.quote) Ends (cond (b == byte.backslash) (Goes AfterBackslash) (cond (nat_le 32 b) (Adds b) Refused))
letter_moves b AfterBackslash = cond (b == byte.lower_u) (Goes AfterU) (escape_moves (short_escape b))
letter_moves b AfterU = Refused
letter_moves b (AfterHex one) = Refused
letter_moves b (AfterTwoHex two) = Refused
letter_moves b (AfterThreeHex three) = Refused
letter_moves b (AfterHigh high) = cond (b == byte.backslash) (Goes (AfterHighBackslash high)) Refused
letter_moves b (AfterHighBackslash high) = cond (b == byte.lower_u) (Goes (AfterHighU high)) Refused
letter_moves b (AfterHighU high) = Refused
letter_moves b (AfterHighHex high) = Refused
letter_moves b (AfterHighTwoHex high two) = Refused
letter_moves b (AfterHighThreeHex high three) = Refused

-- what a byte does at a place, by the number of the hex digits so far, where another has to come
abbrev pub move_by : ℕ → Within → Option ℕ → Move
move_by b place (Some before) = cond (is_hex b) (with_hex (before * 16 + digit_value b) place) Refused
move_by b place None = letter_moves b place

-- what a byte does at a place in a text
abbrev pub moves : ℕ → Within → Move
moves b place = move_by b place (so_far place)

-- a state, by what is open and the mode
abbrev pub with_frames : List Frame → Mode → State
with_frames frames mode = (mode, frames)

-- the state after a value's first byte
abbrev pub begin : ℕ → List Frame → Option State
begin b frames =
    cond (b == byte.open_list) (Some (first_item, frames)) (cond (b == byte.open_object) (Some (first_key, frames))
    (cond (b == byte.quote) (Some (content as_value Plain [], frames))
    (cond (b == 110) (Some (letters (117 ∷ 108 ∷ 108 ∷ []) null, frames)) (cond (b == 116) (Some (letters (114 ∷ 117 ∷ 101 ∷ []) (boolean true), frames)) (cond (b == 102) (Some (letters (97 ∷ 108 ∷ 115 ∷ 101 ∷ []) (boolean false), frames))
    (option_map (λ place. (digits place (b ∷ []), frames)) (first_digit b)))))))

-- the state after the first byte of a key, with the members before it
abbrev pub begin_key : ℕ → Members → List Frame → Option State
begin_key b members frames = cond (b == byte.quote) (Some (content (as_key members) Plain [], frames)) None

-- what a comma or a closing bracket does behind a value
abbrev pub close : ℕ → Tree → List Frame → Option State
close b tree [] = None
close b tree (in_list items ∷ frames) =
    cond (b == byte.comma) (Some (value, in_list (then_item items tree) ∷ frames)) (cond (b == byte.close_list) (Some (ended (list (then_item items tree)), frames)) None)
close b tree (in_member members key ∷ frames) =
    cond (b == byte.comma) (Some (next_key (then_member members (key, tree)), frames)) (cond (b == byte.close_object) (Some (ended (object (then_member members (key, tree))), frames)) None)

-- what a byte does behind a value
abbrev pub after_value : ℕ → Tree → List Frame → Option State
after_value b tree frames = cond (is_blank b) (Some (ended tree, frames)) (close b tree frames)

-- the mode after one more letter of a word with this value
abbrev pub next_letter : ℕ → List ℕ → Tree → Option Mode
next_letter b [] tree = None
next_letter b (letter ∷ []) tree = cond (b == letter) (Some (ended tree)) None
next_letter b (letter ∷ next ∷ more) tree = cond (b == letter) (Some (letters (next ∷ more) tree)) None

-- the state after one more byte of a number, or behind it
abbrev pub next_digit : ℕ → Digits → List ℕ → List Frame → Option Digits → Option State
next_digit b place spelling frames (Some next) = Some (digits next (spelling ++ b ∷ []), frames)
next_digit b place spelling frames None = cond (may_end place) (after_value b (number spelling) frames) None

-- the mode after a text
abbrev pub text_ended : Role → List ℕ → Mode
text_ended as_value bytes = ended (text bytes)
text_ended (as_key members) bytes = colon members bytes

-- the mode after a move in a text
abbrev pub moved : Role → List ℕ → Move → Option Mode
moved role bytes (Goes place) = Some (content role place bytes)
moved role bytes (Adds b) = Some (content role Plain (bytes ++ b ∷ []))
moved role bytes (Spells code) = Some (content role Plain (bytes ++ encode_utf8 code))
moved role bytes Ends = Some (text_ended role bytes)
moved role bytes Refused = None

-- the state after one byte more, where some text goes on with it
abbrev pub step : ℕ → Mode → List Frame → Option State
step b value frames = cond (is_blank b) (Some (value, frames)) (begin b frames)
step b first_item frames = cond (is_blank b) (Some (first_item, frames)) (cond (b == byte.close_list) (Some (ended (list no_items), frames)) (begin b (in_list no_items ∷ frames)))
step b first_key frames = cond (is_blank b) (Some (first_key, frames)) (cond (b == byte.close_object) (Some (ended (object no_members), frames)) (begin_key b no_members frames))
step b (next_key members) frames = cond (is_blank b) (Some (next_key members, frames)) (begin_key b members frames)
step b (colon members key) frames = cond (is_blank b) (Some (colon members key, frames)) (cond (b == byte.colon) (Some (value, in_member members key ∷ frames)) None)
step b (letters left tree) frames = option_map (with_frames frames) (next_letter b left tree)
step b (digits place spelling) frames = next_digit b place spelling frames (digits_after b place)
step b (content role place bytes) frames = option_map (with_frames frames) (moved role bytes (moves b place))
step b (ended tree) frames = after_value b tree frames

-- the tree, where a text may end here
abbrev pub finish : Mode → List Frame → Option Tree
finish (ended tree) [] = Some tree
finish (digits place spelling) [] = cond (may_end place) (Some (number spelling)) None
finish value frames = None
finish first_item frames = None
finish first_key frames = None
finish (next_key so_far) frames = None
finish (colon so_far key) frames = None
finish (letters left tree) frames = None
finish (content role place bytes) frames = None
finish (ended tree) (frame ∷ frames) = None
finish (digits place spelling) (frame ∷ frames) = None

-- the state after all of the bytes
abbrev pub run : List ℕ → State → Option State
run [] state = Some state
run (b ∷ bytes) state = option_and_then (run bytes) (step b state.0 state.1)

-- nothing is open, and a value has to come
abbrev pub start : State
start = (value, [])

-- a high surrogate
abbrev pub IsHigh : ℕ → Type 0
IsHigh unit = (0xd800 ≤ unit) × (unit < 0xdc00)

-- The numbers at a place in a text are hex digits of a code unit that is none of a low surrogate alone.
abbrev pub IsPlace : Within → Type 0
IsPlace Plain = Unit {0}
IsPlace AfterBackslash = Unit {0}
IsPlace AfterU = Unit {0}
IsPlace (AfterHex one) = one < 16
IsPlace (AfterTwoHex two) = (two < 0xdc) ⊎ ((0xe0 ≤ two) × (two < 256))
IsPlace (AfterThreeHex three) = (three < 0xdc0) ⊎ ((0xe00 ≤ three) × (three < 4096))
IsPlace (AfterHigh high) = IsHigh high
IsPlace (AfterHighBackslash high) = IsHigh high
IsPlace (AfterHighU high) = IsHigh high
IsPlace (AfterHighHex high) = IsHigh high
IsPlace (AfterHighTwoHex high two) = IsHigh high × (0xdc ≤ two) × (two < 0xe0)
IsPlace (AfterHighThreeHex high three) = IsHigh high × (0xdc0 ≤ three) × (three < 0xe00)

-- how many levels are open in a mode beside its frames
abbrev pub own_level : Mode → ℕ
own_level value = 0
own_level first_item = 1
own_level first_key = 1
own_level (next_key so_far) = 1
own_level (colon so_far key) = 1
own_level (letters left tree) = 0
own_level (digits place spelling) = 0
own_level (content as_value place bytes) = 0
own_level (content (as_key so_far) place bytes) = 1
own_level (ended tree) = 0

-- how many levels are open
abbrev pub levels : State → ℕ
levels state = own_level state.0 + length state.1

-- within an escape
abbrev pub IsEscape : Within → Type 0
IsEscape Plain = ⊥
IsEscape AfterBackslash = Unit {0}
IsEscape AfterU = Unit {0}
IsEscape (AfterHex one) = Unit {0}
IsEscape (AfterTwoHex two) = Unit {0}
IsEscape (AfterThreeHex three) = Unit {0}
IsEscape (AfterHigh high) = Unit {0}
IsEscape (AfterHighBackslash high) = Unit {0}
IsEscape (AfterHighU high) = Unit {0}
IsEscape (AfterHighHex high) = Unit {0}
IsEscape (AfterHighTwoHex high two) = Unit {0}
IsEscape (AfterHighThreeHex high three) = Unit {0}

-- A move within an escape leads to a place in range. The byte is ASCII where it is taken, and so is what it adds.
abbrev pub IsSoundMove : ℕ → Move → Type 0
IsSoundMove b (Goes place) = (b < 128) × IsPlace place × IsEscape place
IsSoundMove b (Adds added) = (b < 128) × (added < 128)
IsSoundMove b (Spells code) = (b < 128) × IsScalar code
IsSoundMove b Ends = ⊥
IsSoundMove b Refused = Unit {0}
