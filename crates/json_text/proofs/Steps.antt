-- One byte: where the grammar goes on the machine does, and from a sound state the other way round. A sound state stays sound, and it grows deeper only by a level that it opens.
use Rattle.std.proofs.Common.{◌≡◌, ℕ, suc, ◌+◌, ◌*◌, ◌<◌, ◌≤◌, ◌==◌, Bool, false, cond, max, List, [], ◌∷◌, ◌⊎◌, inl, inr, length, IsTrue, nat_le, Option, Some, None, option_map, refl, arith, zero}
use Rattle.std.{specs.Char.digit_value, proofs.lemmas.Grind.common_steps}
use Rattle.json_text.specs.{declared.state.Digits.Digits, declared.state.Within.Within, declared.state.Move.Move, Classes.{is_blank, is_hex, short_escape}}
use Rattle.json_text.specs.declared.state.Within.TheVariants.{Plain, AfterBackslash, AfterU, AfterHex, AfterTwoHex, AfterThreeHex, AfterHigh, AfterHighBackslash, AfterHighU, AfterHighHex, AfterHighTwoHex, AfterHighThreeHex}
use Rattle.json_text.specs.declared.state.Move.TheVariants as moving
use Rattle.json_text.specs.Tree.{Tree, object, Items, no_items, item, Members, no_members, member, nesting, items_nesting, members_nesting}
use Rattle.json_text.specs.Machine.{Frame, in_list, in_member, Role, as_value, as_key, Mode, value, first_item, first_key, next_key, colon, letters, digits, content, ended, State, begin, begin_key, close, after_value, next_letter, next_digit, digits_after, moved, moves, move_by, with_hex, so_far, escape_moves, with_frames, step, IsPlace, levels}
use Rattle.json_text.{specs.Parts.{then_item, then_member}, specs.Depth.{around, inner_depth, depth}, proofs.Completion.{Completes, Leads}}
use Rattle.json_text.proofs.Forth.{spaced_forth, items_forth, members_forth, next_member_forth, colon_forth, letters_forth, digits_on, ended_forth}
use Rattle.json_text.proofs.Back.{value_back, first_item_back, first_key_back, next_key_back, colon_back, letters_back, digits_on_back, ended_back}
use Rattle.json_text.proofs.{Contents.{content_forth, content_back}, Escapes.hex_range}

-- where the grammar goes on, the machine does
pub forth : (mode : Mode) (frames : List Frame) (b : ℕ) (rest : List ℕ) (whole : Tree) → Completes mode frames (b ∷ rest) whole → Leads (step b mode frames) rest whole
forth value frames b rest whole (before, inside, more, tree, e, blank, v, k) = spaced_forth before inside more tree b rest frames whole e blank v k
forth first_item frames b rest whole (inside, more, items, e, all, k) = items_forth items inside more b rest frames whole e all k
forth first_key frames b rest whole (inside, more, members, e, all, k) = members_forth members inside more b rest frames whole e all k
forth (next_key so_far) frames b rest whole (one, inside, more, key, tree, further, e, entry, all, k) = next_member_forth one inside more key tree further so_far b rest frames whole e entry all k
forth (colon members key) frames b rest whole (after, inside, others, more, tree, further, e, blank, v, all, k) = colon_forth after inside others more key tree further members b rest frames whole e blank v all k
forth (letters [] tree) frames b rest whole h = absurd h
forth (letters (letter ∷ left) tree) frames b rest whole (more, e, k) = letters_forth left letter more tree b rest frames whole e k
forth (digits place spelling) frames b rest whole (tail, more, e, ends, k) = digits_on place spelling tail more b rest frames whole e ends k
forth (content role place bytes) frames b rest whole h = content_forth role place b bytes rest frames whole h
forth (ended tree) frames b rest whole k = ended_forth frames tree b rest whole k

-- a state that some rest completes: a word has letters left, and hex digits begin no low surrogate alone
abbrev pub IsSoundMode : Mode → Type 0
IsSoundMode value = Unit {0}
IsSoundMode first_item = Unit {0}
IsSoundMode first_key = Unit {0}
IsSoundMode (next_key so_far) = Unit {0}
IsSoundMode (colon so_far key) = Unit {0}
IsSoundMode (letters [] tree) = ⊥
IsSoundMode (letters (letter ∷ left) tree) = Unit {0}
IsSoundMode (digits place spelling) = Unit {0}
IsSoundMode (content role place bytes) = IsPlace place
IsSoundMode (ended tree) = Unit {0}

-- where the machine goes on from a sound state, the grammar does
pub back : (mode : Mode) (frames : List Frame) (b : ℕ) (rest : List ℕ) (whole : Tree) → IsSoundMode mode → Leads (step b mode frames) rest whole → Completes mode frames (b ∷ rest) whole
back value frames b rest whole sound l = value_back b frames rest whole l
back first_item frames b rest whole sound l = first_item_back b frames rest whole l
back first_key frames b rest whole sound l = first_key_back b frames rest whole l
back (next_key so_far) frames b rest whole sound l = next_key_back b so_far frames rest whole l
back (colon members key) frames b rest whole sound l = colon_back b members key frames rest whole l
back (letters left tree) frames b rest whole sound l = letters_back left b tree frames rest whole l
back (digits place spelling) frames b rest whole sound l = digits_on_back place spelling b frames rest whole l
back (content role place bytes) frames b rest whole sound l = content_back role place b bytes rest frames whole sound l
back (ended tree) frames b rest whole sound l = ended_back b tree frames rest whole l

-- both ways of a choice
both : {A : Type 0} (P : A → Type 0) (test : Bool) (x y : A) → (IsTrue test → P x) → (test ≡ false → P y) → P (cond test x y)
both P test x y p q = grind (arith, common_steps)

-- a move leads to a place in range
abbrev pub MovesSoundly : Move → Type 0
MovesSoundly (moving.Goes place) = IsPlace place
MovesSoundly (moving.Adds b) = Unit {0}
MovesSoundly (moving.Spells code) = Unit {0}
MovesSoundly moving.Ends = Unit {0}
MovesSoundly moving.Refused = Unit {0}

escape_sound : (meant : Option ℕ) → MovesSoundly (escape_moves meant)
escape_sound meant = grind (arith, common_steps)

hex_sound : (place : Within) (before digit : ℕ) → digit < 16 → so_far place ≡ Some before → IsPlace place → MovesSoundly (with_hex (before * 16 + digit) place)
hex_sound place before digit small e sound = grind (arith, common_steps)

digit_sound : (b before : ℕ) (place : Within) → so_far place ≡ Some before → IsPlace place → MovesSoundly (move_by b place (Some before))
digit_sound b before place e sound = both MovesSoundly (is_hex b) _ _ (λ h. hex_sound place before (digit_value b) (hex_range b h) e sound) (λ h. tt)

move_sound : (place : Within) (b : ℕ) → IsPlace place → MovesSoundly (moves b place)
move_sound Plain b sound = both MovesSoundly (b == 34) _ _ (λ h. tt) (λ h. both MovesSoundly (b == 92) _ _ (λ h. tt) (λ h. both MovesSoundly (nat_le 32 b) _ _ (λ h. tt) (λ h. tt)))
move_sound AfterBackslash b sound = both MovesSoundly (b == 117) _ _ (λ h. tt) (λ h. escape_sound (short_escape b))
move_sound AfterU b sound = digit_sound b 0 AfterU refl sound
move_sound (AfterHex one) b sound = digit_sound b one (AfterHex one) refl sound
move_sound (AfterTwoHex two) b sound = digit_sound b two (AfterTwoHex two) refl sound
move_sound (AfterThreeHex three) b sound = digit_sound b three (AfterThreeHex three) refl sound
move_sound (AfterHigh high) b sound = both MovesSoundly (b == 92) _ _ (λ h. sound) (λ h. tt)
move_sound (AfterHighBackslash high) b sound = both MovesSoundly (b == 117) _ _ (λ h. sound) (λ h. tt)
move_sound (AfterHighU high) b sound = digit_sound b 0 (AfterHighU high) refl sound
move_sound (AfterHighHex high) b sound = digit_sound b 13 (AfterHighHex high) refl sound
move_sound (AfterHighTwoHex high two) b sound = digit_sound b two (AfterHighTwoHex high two) refl sound
move_sound (AfterHighThreeHex high three) b sound = digit_sound b three (AfterHighThreeHex high three) refl sound

-- the nesting grows with what is inside, at most by what is inside
pub around_grows : (frames : List Frame) (m n : ℕ) → m ≤ n → around frames m ≤ around frames n
around_grows [] m n h = h
around_grows (in_list items ∷ frames) m n h = around_grows frames (1 + max (items_nesting items) m) (1 + max (items_nesting items) n) (omega (arith, h))
around_grows (in_member members key ∷ frames) m n h = around_grows frames (1 + max (members_nesting members) m) (1 + max (members_nesting members) n) (omega (arith, h))

pub around_least : (frames : List Frame) (n : ℕ) → length frames + n ≤ around frames n
around_least [] n = omega arith
around_least (in_list items ∷ frames) n = let outer = around_least frames (1 + max (items_nesting items) n) in omega (arith, outer)
around_least (in_member members key ∷ frames) n = let outer = around_least frames (1 + max (members_nesting members) n) in omega (arith, outer)

around_either : (frames : List Frame) (k m n : ℕ) → (k ≤ m) ⊎ (k ≤ n) → around frames k ≤ max (around frames m) (around frames n)
around_either frames k m n h = grind (arith, common_steps, around_grows)

either_way : (m n : ℕ) → (m ≤ n) ⊎ (n ≤ m)
either_way zero n = inl (omega arith)
either_way (suc m) zero = inr (omega arith)
either_way (suc m) (suc n) = elim (either_way m n) [ inl h ↦ inl (omega (arith, h)) | inr h ↦ inr (omega (arith, h)) ]

larger : (i n : ℕ) → (1 + max i n ≤ 1 + max i 0) ⊎ (1 + max i n ≤ 1 + n)
larger i n = elim (either_way n i) [ inl h ↦ inl (omega (arith, h)) | inr h ↦ inr (omega (arith, h)) ]

pub around_splits : (frames : List Frame) (n : ℕ) → around frames n ≤ max (around frames 0) (length frames + n)
around_splits [] n = omega arith
around_splits (in_list items ∷ frames) n = grind (arith, common_steps, around_either, max, larger, around_grows, around_splits frames (1 + n))
around_splits (in_member members key ∷ frames) n = grind (arith, common_steps, around_either, max, larger, around_grows, around_splits frames (1 + n))

-- one more item, and one more member
pub then_item_nesting : (items : Items) (tree : Tree) → items_nesting (then_item items tree) ≡ max (items_nesting items) (nesting tree)
then_item_nesting no_items tree = omega arith
then_item_nesting (item first items) tree = let inner = then_item_nesting items tree in omega (arith, inner)

pub then_member_nesting : (members : Members) (key : List ℕ) (tree : Tree) → members_nesting (then_member members (key, tree)) ≡ max (members_nesting members) (nesting tree)
then_member_nesting no_members key tree = omega arith
then_member_nesting (member first held members) key tree = let inner = then_member_nesting members key tree in omega (arith, inner)

-- the state after a byte is sound, and deeper only by a level that it opens
abbrev pub Keeps : ℕ → Option State → Type 0
Keeps before None = Unit {0}
Keeps before (Some next) = IsSoundMode next.0 × (depth next ≤ max before (levels next))

-- where no level is opened
same_depth : (before : ℕ) (mode : Mode) (frames : List Frame) → IsSoundMode mode → around frames (inner_depth mode) ≤ before → Keeps before (Some (mode, frames))
same_depth before mode frames sound h = (sound, omega (arith, h))

number_keeps : (b : ℕ) (frames : List Frame) (place : Option Digits) → Keeps (around frames 0) (option_map (λ (place : Digits). (digits place (b ∷ []), frames)) place)
number_keeps b frames place = grind (arith, common_steps)

begin_keeps : (b : ℕ) (frames : List Frame) → Keeps (around frames 0) (begin b frames)
begin_keeps b frames = grind (arith, common_steps, around, around_splits, both, number_keeps)

begin_key_keeps : (b : ℕ) (members : Members) (frames : List Frame) → Keeps (around frames (1 + members_nesting members)) (begin_key b members frames)
begin_key_keeps b members frames = both (λ o. Keeps (around frames (1 + members_nesting members)) o) (b == 34) _ _ (λ h. (tt, omega arith)) (λ h. tt)

close_keeps : (b : ℕ) (tree : Tree) (frames : List Frame) → Keeps (around frames (nesting tree)) (close b tree frames)
close_keeps b tree [] = tt
close_keeps b tree (in_list items ∷ frames) = grind (arith, common_steps, around, max, then_item_nesting, both, same_depth, then_item, around_grows)
close_keeps b tree (in_member members key ∷ frames) =
    let P : Option State → Type 0 = λ o. Keeps (around frames (1 + max (members_nesting members) (nesting tree))) o in
    let all = then_member_nesting members key tree in
    both P (b == 44) _ _ (λ h. same_depth _ (next_key (then_member members (key, tree))) frames tt (around_grows frames (1 + members_nesting (then_member members (key, tree))) (1 + max (members_nesting members) (nesting tree)) (omega (arith, all))))
    (λ h. both P (b == 125) _ _ (λ h. same_depth _ (ended (object (then_member members (key, tree)))) frames tt (around_grows frames (1 + members_nesting (then_member members (key, tree))) (1 + max (members_nesting members) (nesting tree)) (omega (arith, all)))) (λ h. tt))

after_keeps : (b : ℕ) (tree : Tree) (frames : List Frame) → Keeps (around frames (nesting tree)) (after_value b tree frames)
after_keeps b tree frames = both (λ o. Keeps (around frames (nesting tree)) o) (is_blank b) _ _ (λ h. same_depth _ (ended tree) frames tt (omega arith)) (λ h. close_keeps b tree frames)

letter_keeps : (b : ℕ) (left : List ℕ) (tree : Tree) (frames : List Frame) → Keeps (around frames (nesting tree)) (option_map (with_frames frames) (next_letter b left tree))
letter_keeps b left tree frames = grind (arith, common_steps)

digit_keeps : (b : ℕ) (place : Digits) (spelling : List ℕ) (frames : List Frame) (next : Option Digits) → Keeps (around frames 0) (next_digit b place spelling frames next)
digit_keeps b place spelling frames next = grind (arith, common_steps, same_depth, both, around, after_keeps)

move_keeps : (role : Role) (place : Within) (bytes : List ℕ) (frames : List Frame) (move : Move) → MovesSoundly move
    → Keeps (around frames (inner_depth (content role place bytes))) (option_map (with_frames frames) (moved role bytes move))
move_keeps as_value place bytes frames (moving.Goes next) sound = (sound, omega arith)
move_keeps as_value place bytes frames (moving.Adds b) sound = (tt, omega arith)
move_keeps as_value place bytes frames (moving.Spells code) sound = (tt, omega arith)
move_keeps as_value place bytes frames moving.Ends sound = (tt, omega arith)
move_keeps as_value place bytes frames moving.Refused sound = tt
move_keeps (as_key listed) place bytes frames (moving.Goes next) sound = (sound, omega arith)
move_keeps (as_key listed) place bytes frames (moving.Adds b) sound = (tt, omega arith)
move_keeps (as_key listed) place bytes frames (moving.Spells code) sound = (tt, omega arith)
move_keeps (as_key listed) place bytes frames moving.Ends sound = (tt, omega arith)
move_keeps (as_key listed) place bytes frames moving.Refused sound = tt

pub step_keeps : (mode : Mode) (b : ℕ) (frames : List Frame) → IsSoundMode mode → Keeps (depth (mode, frames)) (step b mode frames)
step_keeps value b frames sound = both (λ o. Keeps (around frames 0) o) (is_blank b) _ _ (λ h. (tt, omega arith)) (λ h. begin_keeps b frames)
step_keeps first_item b frames sound = grind (arith, common_steps, around, both, begin_keeps)
step_keeps first_key b frames sound = grind (arith, common_steps)
step_keeps (next_key so_far) b frames sound = both (λ o. Keeps (around frames (1 + members_nesting so_far)) o) (is_blank b) _ _ (λ h. (tt, omega arith)) (λ h. begin_key_keeps b so_far frames)
step_keeps (colon listed key) b frames sound = grind (arith, common_steps)
step_keeps (letters left tree) b frames sound = letter_keeps b left tree frames
step_keeps (digits place spelling) b frames sound = digit_keeps b place spelling frames (digits_after b place)
step_keeps (content role place bytes) b frames sound = move_keeps role place bytes frames (moves b place) (move_sound place b sound)
step_keeps (ended tree) b frames sound = after_keeps b tree frames
