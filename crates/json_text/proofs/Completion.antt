-- What completes a text from a state on: the grammar's rest, with any tree. A text that begins with some bytes completes the state after them.
use Rattle.std.{proofs.Common.{◌≡◌, ℕ, ◌+◌, ◌*◌, false, List, [], ◌∷◌, ◌++◌, ◌⊎◌, length, IsTrue, Option, Some, None}, specs.Char.{digit_value, encode_utf8}}
use Rattle.json_text.specs.declared.state.Digits.{Digits}
use Rattle.json_text.specs.declared.state.Digits.TheVariants.{AfterMinus, AfterZero, InWhole, AfterPoint, InFraction, AfterMark, AfterSign, InExponent}
use Rattle.json_text.specs.declared.state.Within.{Within}
use Rattle.json_text.specs.declared.state.Within.TheVariants.{Plain, AfterBackslash, AfterU, AfterHex, AfterTwoHex, AfterThreeHex, AfterHigh, AfterHighBackslash, AfterHighU, AfterHighHex, AfterHighTwoHex, AfterHighThreeHex}
use Rattle.json_text.specs.Bytes as byte
use Rattle.json_text.specs.Classes.{is_digit, is_hex, is_low_surrogate, is_high_surrogate, is_surrogate, pair_of}
use Rattle.json_text.specs.Tree.{Tree, number, text, list, object, Items, no_items, item, Members, no_members, member}
use Rattle.json_text.specs.Grammar.{Each, IsBlank, IsDigits, IsWhole, IsFraction, IsSigned, IsExponent, Spells, Spaced, IsMember, IsValue, IsItems, MoreItems, IsMembers, MoreMembers}
use Rattle.json_text.specs.Machine.{Frame, in_list, in_member, Role, as_value, as_key, Mode, value, first_item, first_key, next_key, colon, letters, digits, content, ended, State}
use Rattle.json_text.specs.Parts.{then_item, then_member}

-- more items behind these
abbrev pub and_items : Items → Items → Items
and_items no_items more = more
and_items (item tree items) more = item tree (and_items items more)

-- more members behind these
abbrev pub and_members : Members → Members → Members
and_members no_members more = more
and_members (member key tree members) more = member key tree (and_members members more)

-- behind a value with this tree, inside these frames, the rest ends the text of the whole tree
abbrev pub Closes : List Frame → Tree → List ℕ → Tree → Type 0
Closes [] tree rest whole = IsBlank rest × (tree ≡ whole)
Closes (in_list items ∷ frames) tree rest whole = (after inside more : List ℕ) × (others : Items) × (rest ≡ after ++ (inside ++ byte.close_list ∷ more))
    × IsBlank after × MoreItems inside others × Closes frames (list (and_items (then_item items tree) others)) more whole
Closes (in_member members key ∷ frames) tree rest whole = (after inside more : List ℕ) × (others : Members) × (rest ≡ after ++ (inside ++ byte.close_object ∷ more))
    × IsBlank after × MoreMembers inside others × Closes frames (object (and_members (then_member members (key, tree)) others)) more whole

-- what ends a number from a place on
abbrev pub EndsNumber : Digits → List ℕ → Type 0
EndsNumber AfterMinus tail = (whole fraction exponent : List ℕ) × (tail ≡ whole ++ (fraction ++ exponent)) × IsWhole whole × IsFraction fraction × IsExponent exponent
EndsNumber AfterZero tail = (fraction exponent : List ℕ) × (tail ≡ fraction ++ exponent) × IsFraction fraction × IsExponent exponent
EndsNumber InWhole tail = (more fraction exponent : List ℕ) × (tail ≡ more ++ (fraction ++ exponent)) × Each is_digit more × IsFraction fraction × IsExponent exponent
EndsNumber AfterPoint tail = (more exponent : List ℕ) × (tail ≡ more ++ exponent) × IsDigits more × IsExponent exponent
EndsNumber InFraction tail = (more exponent : List ℕ) × (tail ≡ more ++ exponent) × Each is_digit more × IsExponent exponent
EndsNumber AfterMark tail = IsSigned tail
EndsNumber AfterSign tail = IsDigits tail
EndsNumber InExponent tail = Each is_digit tail

-- hex digits that make this number a code unit
abbrev pub Hex : ℕ → List ℕ → ℕ → Type 0
Hex before [] unit = before ≡ unit
Hex before (b ∷ bytes) unit = IsTrue (is_hex b) × Hex (before * 16 + digit_value b) bytes unit

-- this many hex digits that make the number a low surrogate, and the rest of the text behind the pair
abbrev pub LowUnit : ℕ → ℕ → ℕ → List ℕ → List ℕ → Type 0
LowUnit count before high inside spelled = (hex more after : List ℕ) × (low : ℕ) × (inside ≡ hex ++ more) × (length hex ≡ count) × Hex before hex low × IsTrue (is_low_surrogate low)
    × Spells more after × (spelled ≡ encode_utf8 (pair_of high low) ++ after)

-- the rest of the text behind a first code unit
abbrev pub BehindUnit : ℕ → List ℕ → List ℕ → Type 0
BehindUnit unit inside spelled = ((is_surrogate unit ≡ false) × ((after : List ℕ) × Spells inside after × (spelled ≡ encode_utf8 unit ++ after)))
    ⊎ (IsTrue (is_high_surrogate unit) × ((tail : List ℕ) × (inside ≡ byte.backslash ∷ byte.lower_u ∷ tail) × LowUnit 4 0 unit tail spelled))

-- this many hex digits that make the number a code unit, and the rest of the text
abbrev pub FirstUnit : ℕ → ℕ → List ℕ → List ℕ → Type 0
FirstUnit count before inside spelled = (hex more : List ℕ) × (unit : ℕ) × (inside ≡ hex ++ more) × (length hex ≡ count) × Hex before hex unit × BehindUnit unit more spelled

-- what stands between here and the closing quote, at a place in a text, spells these bytes
abbrev pub EndsText : Within → List ℕ → List ℕ → Type 0
EndsText Plain inside spelled = Spells inside spelled
EndsText AfterBackslash inside spelled = Spells (byte.backslash ∷ inside) spelled
EndsText AfterU inside spelled = FirstUnit 4 0 inside spelled
EndsText (AfterHex one) inside spelled = FirstUnit 3 one inside spelled
EndsText (AfterTwoHex two) inside spelled = FirstUnit 2 two inside spelled
EndsText (AfterThreeHex three) inside spelled = FirstUnit 1 three inside spelled
EndsText (AfterHigh high) inside spelled = (tail : List ℕ) × (inside ≡ byte.backslash ∷ byte.lower_u ∷ tail) × LowUnit 4 0 high tail spelled
EndsText (AfterHighBackslash high) inside spelled = (tail : List ℕ) × (inside ≡ byte.lower_u ∷ tail) × LowUnit 4 0 high tail spelled
EndsText (AfterHighU high) inside spelled = LowUnit 4 0 high inside spelled
EndsText (AfterHighHex high) inside spelled = LowUnit 3 0xd high inside spelled
EndsText (AfterHighTwoHex high two) inside spelled = LowUnit 2 two high inside spelled
EndsText (AfterHighThreeHex high three) inside spelled = LowUnit 1 three high inside spelled

-- what ends the text that is open in a role
abbrev pub Follows : Role → List Frame → List ℕ → List ℕ → Tree → Type 0
Follows as_value frames bytes rest whole = Closes frames (text bytes) rest whole
Follows (as_key members) frames key rest whole = (after inside others more : List ℕ) × (tree : Tree) × (further : Members)
    × (rest ≡ after ++ byte.colon ∷ (inside ++ (others ++ byte.close_object ∷ more)))
    × IsBlank after × Spaced (λ bytes. IsValue bytes tree) inside × MoreMembers others further × Closes frames (object (and_members (then_member members (key, tree)) further)) more whole

-- The rest of these bytes, read from the mode on, ends the text of the whole tree.
abbrev pub Completes : Mode → List Frame → List ℕ → Tree → Type 0
Completes value frames rest whole = (before inside more : List ℕ) × (tree : Tree) × (rest ≡ before ++ (inside ++ more)) × IsBlank before × IsValue inside tree × Closes frames tree more whole
Completes first_item frames rest whole = (inside more : List ℕ) × (items : Items) × (rest ≡ inside ++ byte.close_list ∷ more) × IsItems inside items × Closes frames (list items) more whole
Completes first_key frames rest whole = (inside more : List ℕ) × (members : Members) × (rest ≡ inside ++ byte.close_object ∷ more) × IsMembers inside members × Closes frames (object members) more whole
Completes (next_key so_far) frames rest whole = (one inside more key : List ℕ) × (tree : Tree) × (further : Members) × (rest ≡ one ++ (inside ++ byte.close_object ∷ more))
    × IsMember (λ bytes. IsValue bytes tree) key one × MoreMembers inside further × Closes frames (object (and_members (then_member so_far (key, tree)) further)) more whole
Completes (colon members key) frames rest whole = Follows (as_key members) frames key rest whole
Completes (letters [] tree) frames rest whole = ⊥
Completes (letters (letter ∷ left) tree) frames rest whole = (more : List ℕ) × (rest ≡ letter ∷ (left ++ more)) × Closes frames tree more whole
Completes (digits place spelling) frames rest whole = (tail more : List ℕ) × (rest ≡ tail ++ more) × EndsNumber place tail × Closes frames (number (spelling ++ tail)) more whole
Completes (content role place bytes) frames rest whole = (inside more spelled : List ℕ) × (rest ≡ inside ++ byte.quote ∷ more) × EndsText place inside spelled
    × Follows role frames (bytes ++ spelled) more whole
Completes (ended tree) frames rest whole = Closes frames tree rest whole

-- reading goes on, to a state that the rest completes
abbrev pub Leads : Option State → List ℕ → Tree → Type 0
Leads None rest whole = ⊥
Leads (Some state) rest whole = Completes state.0 state.1 rest whole
