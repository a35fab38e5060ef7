-- What ends a text from a sound state on, with no level more; and a text that goes on from a state is as deep as the state at least.
use Rattle.std.proofs.Common.{◌≡◌, ℕ, suc, ◌+◌, ◌*◌, ◌<◌, ◌≤◌, false, max, List, [], ◌∷◌, ◌++◌, ◌⊎◌, inl, inr, length, IsTrue, refl, arith, sym, subst, append-nil, zero}
use Rattle.std.{proofs.lemmas.Bool.Decides.nat_tests, specs.Char.encode_utf8, proofs.lemmas.Grind.common_steps}
use Rattle.json_text.specs.{declared.state.Digits.Digits, declared.state.Within.Within, Classes.{is_surrogate, is_high_surrogate, is_low_surrogate, pair_of}}
use Rattle.json_text.specs.declared.state.Digits.TheVariants.{AfterMinus, AfterZero, InWhole, AfterPoint, InFraction, AfterMark, AfterSign, InExponent}
use Rattle.json_text.specs.declared.state.Within.TheVariants.{Plain, AfterBackslash, AfterU, AfterHex, AfterTwoHex, AfterThreeHex, AfterHigh, AfterHighBackslash, AfterHighU, AfterHighHex, AfterHighTwoHex, AfterHighThreeHex}
use Rattle.json_text.specs.Tree.{Tree, null, number, text, list, object, Items, no_items, item, Members, no_members, member, nesting, items_nesting, members_nesting}
use Rattle.json_text.specs.{Grammar.{nothing, further}, Parts.{then_item, then_member}, Depth.{around, inner_depth, depth}}
use Rattle.json_text.specs.Machine.{Frame, in_list, in_member, Role, as_value, as_key, Mode, value, first_item, first_key, next_key, colon, letters, digits, content, ended, IsPlace}
use Rattle.json_text.proofs.Completion.{and_items, and_members, Closes, EndsNumber, Hex, LowUnit, FirstUnit, EndsText, Follows, Completes}
use Rattle.json_text.proofs.{Forth.{and_no_items, and_no_members}, Steps.{IsSoundMode, around_grows, then_item_nesting, then_member_nesting}}

-- items and members behind others
and_items_nesting : (items more : Items) → items_nesting (and_items items more) ≡ max (items_nesting items) (items_nesting more)
and_items_nesting no_items more = omega arith
and_items_nesting (item tree items) more = let inner = and_items_nesting items more in omega (arith, inner)

and_members_nesting : (members more : Members) → members_nesting (and_members members more) ≡ max (members_nesting members) (members_nesting more)
and_members_nesting no_members more = omega arith
and_members_nesting (member key tree members) more = let inner = and_members_nesting members more in omega (arith, inner)

-- the brackets that close the frames
abbrev pub Closing : List Frame → Tree → ℕ → Type 0
Closing frames tree most = (rest : List ℕ) × (whole : Tree) × Closes frames tree rest whole × (nesting whole ≤ most)

closing_less : (frames : List Frame) (tree : Tree) (m n : ℕ) → m ≤ n → Closing frames tree m → Closing frames tree n
closing_less frames tree m n h (rest, whole, k, less) = (rest, whole, k, omega (arith, h, less))

close_items : (items : Items) (tree : Tree) (frames : List Frame) (most : ℕ) → Closing frames (list (then_item items tree)) most → Closing (in_list items ∷ frames) tree most
close_items items tree frames most (rest, whole, k, less) =
    (93 ∷ rest, whole, ([], [], rest, no_items, refl, tt, refl, subst (λ all. Closes frames (list all) rest whole) (sym (and_no_items (then_item items tree))) k), less)

close_members : (members : Members) (key : List ℕ) (tree : Tree) (frames : List Frame) (most : ℕ) → Closing frames (object (then_member members (key, tree))) most → Closing (in_member members key ∷ frames) tree most
close_members members key tree frames most (rest, whole, k, less) =
    (125 ∷ rest, whole, ([], [], rest, no_members, refl, tt, refl, subst (λ all. Closes frames (object all) rest whole) (sym (and_no_members (then_member members (key, tree)))) k), less)

pub closing : (frames : List Frame) (tree : Tree) → Closing frames tree (around frames (nesting tree))
closing [] tree = ([], tree, (tt, refl), omega arith)
closing (in_list items ∷ frames) tree =
    let all = then_item_nesting items tree in
    close_items items tree frames _ (closing_less frames (list (then_item items tree)) (around frames (1 + items_nesting (then_item items tree))) (around frames (1 + max (items_nesting items) (nesting tree)))
    (around_grows frames (1 + items_nesting (then_item items tree)) (1 + max (items_nesting items) (nesting tree)) (omega (arith, all))) (closing frames (list (then_item items tree))))
closing (in_member members key ∷ frames) tree =
    let all = then_member_nesting members key tree in
    close_members members key tree frames _ (closing_less frames (object (then_member members (key, tree))) (around frames (1 + members_nesting (then_member members (key, tree)))) (around frames (1 + max (members_nesting members) (nesting tree)))
    (around_grows frames (1 + members_nesting (then_member members (key, tree))) (1 + max (members_nesting members) (nesting tree)) (omega (arith, all))) (closing frames (object (then_member members (key, tree)))))

-- the same within an object, behind a key
member_closing : (members : Members) (key : List ℕ) (tree : Tree) (frames : List Frame) → nesting tree ≡ 0 → Closing frames (object (and_members (then_member members (key, tree)) no_members)) (around frames (1 + members_nesting members))
member_closing members key tree frames flat =
    let all = then_member_nesting members key tree in
    subst (λ every. Closing frames (object every) (around frames (1 + members_nesting members))) (sym (and_no_members (then_member members (key, tree))))
    (closing_less frames (object (then_member members (key, tree))) (around frames (1 + members_nesting (then_member members (key, tree)))) (around frames (1 + members_nesting members))
    (around_grows frames (1 + members_nesting (then_member members (key, tree))) (1 + members_nesting members) (omega (arith, all, flat))) (closing frames (object (then_member members (key, tree)))))

-- what ends a number
number_ending : (place : Digits) → (tail : List ℕ) × EndsNumber place tail
number_ending AfterMinus = (48 ∷ [], (48 ∷ [], [], [], refl, inl (refl, refl), tt, tt))
number_ending AfterZero = ([], ([], [], refl, tt, tt))
number_ending InWhole = ([], ([], [], [], refl, tt, tt, tt))
number_ending AfterPoint = (48 ∷ [], (48 ∷ [], [], refl, (refl, tt), tt))
number_ending InFraction = ([], ([], [], refl, tt, tt))
number_ending AfterMark = (48 ∷ [], inl (refl, tt))
number_ending AfterSign = (48 ∷ [], (refl, tt))
number_ending InExponent = ([], tt)

-- what ends a text
abbrev pub TextEnding : Within → Type 0
TextEnding place = (inside spelled : List ℕ) × EndsText place inside spelled

low_ending : (high before : ℕ) (count : ℕ) (hex : List ℕ) (low : ℕ) → length hex ≡ count → Hex before hex low → IsTrue (is_low_surrogate low) → (inside spelled : List ℕ) × LowUnit count before high inside spelled
low_ending high before count hex low size is test = (hex, encode_utf8 (pair_of high low), (hex, [], [], low, sym (append-nil hex), size, is, test, nothing, sym (append-nil (encode_utf8 (pair_of high low)))))

-- the digits dc00, all of them
four_low : (high : ℕ) → (inside spelled : List ℕ) × LowUnit 4 0 high inside spelled
four_low high = low_ending high 0 4 (100 ∷ 99 ∷ 48 ∷ 48 ∷ []) 0xdc00 refl (refl, (refl, (refl, (refl, refl)))) refl

low_test : (n : ℕ) → 0xdc00 ≤ n → n < 0xe000 → IsTrue (is_low_surrogate n)
low_test n h g = grind (arith, nat_tests)

high_test : (n : ℕ) → 0xd800 ≤ n → n < 0xdc00 → IsTrue (is_high_surrogate n)
high_test n h g = grind (arith, nat_tests)

whole_test : (n : ℕ) → (n < 0xd800) ⊎ (0xe000 ≤ n) → is_surrogate n ≡ false
whole_test n h = grind (arith, nat_tests)

below_or : (n m : ℕ) → (n < m) ⊎ (m ≤ n)
below_or n zero = inr (omega arith)
below_or zero (suc m) = inl (omega arith)
below_or (suc n) (suc m) = elim (below_or n m) [ inl h ↦ inl (omega (arith, h)) | inr h ↦ inr (omega (arith, h)) ]

one_range : (one : ℕ) → one < 16 → (((one * 16 + 0) * 16 + 0) * 16 + 0 < 0xdc00) ⊎ (0xe000 ≤ ((one * 16 + 0) * 16 + 0) * 16 + 0)
one_range one h = elim (below_or one 14) [ inl less ↦ inl (omega (arith, less)) | inr more ↦ inr (omega (arith, more)) ]

two_range : (two : ℕ) → IsPlace (AfterTwoHex two) → ((two * 16 + 0) * 16 + 0 < 0xdc00) ⊎ (0xe000 ≤ (two * 16 + 0) * 16 + 0)
two_range two h = elim h [ inl less ↦ inl (omega (arith, less)) | inr more ↦ inr (omega (arith, more.0)) ]

three_range : (three : ℕ) → IsPlace (AfterThreeHex three) → (three * 16 + 0 < 0xdc00) ⊎ (0xe000 ≤ three * 16 + 0)
three_range three h = elim h [ inl less ↦ inl (omega (arith, less)) | inr more ↦ inr (omega (arith, more.0)) ]

-- three ranges of code units: the high surrogates, the low ones and the others
unit_ranges : (n : ℕ) → (n < 0xdc00) ⊎ (0xe000 ≤ n) → ((n < 0xd800) ⊎ (0xe000 ≤ n)) ⊎ ((0xd800 ≤ n) × (n < 0xdc00))
unit_ranges n h = grind (arith, common_steps)

unit_ending : (count before : ℕ) (hex : List ℕ) (unit : ℕ) → length hex ≡ count → Hex before hex unit → (unit < 0xdc00) ⊎ (0xe000 ≤ unit) → (inside spelled : List ℕ) × FirstUnit count before inside spelled
unit_ending count before hex unit size is range = elim (unit_ranges unit range) [
  | inl whole ↦ (hex, encode_utf8 unit, (hex, [], unit, sym (append-nil hex), size, is, inl (whole_test unit whole, ([], nothing, sym (append-nil (encode_utf8 unit))))))
  | inr (least, most) ↦
      let (tail, spelled, low) = four_low unit in
      (hex ++ 92 ∷ 117 ∷ tail, spelled, (hex, 92 ∷ 117 ∷ tail, unit, refl, size, is, inr (high_test unit least most, (tail, refl, low))))
]

text_ending : (place : Within) → IsPlace place → TextEnding place
text_ending Plain sound = ([], [], nothing)
text_ending AfterBackslash sound = (110 ∷ [], 10 ∷ [], further {one = 92 ∷ 110 ∷ []} {rest = 10 ∷ []} {more = []} {after = []} (inr (inl (110, 10, refl, refl, refl))) nothing refl refl)
text_ending AfterU sound = unit_ending 4 0 (48 ∷ 48 ∷ 48 ∷ 48 ∷ []) 0 refl (refl, (refl, (refl, (refl, refl)))) (inl (omega arith))
text_ending (AfterHex one) sound = unit_ending 3 one (48 ∷ 48 ∷ 48 ∷ []) (((one * 16 + 0) * 16 + 0) * 16 + 0) refl (refl, (refl, (refl, refl))) (one_range one sound)
text_ending (AfterTwoHex two) sound = unit_ending 2 two (48 ∷ 48 ∷ []) ((two * 16 + 0) * 16 + 0) refl (refl, (refl, refl)) (two_range two sound)
text_ending (AfterThreeHex three) sound = unit_ending 1 three (48 ∷ []) (three * 16 + 0) refl (refl, refl) (three_range three sound)
text_ending (AfterHigh high) sound = let (tail, spelled, low) = four_low high in (92 ∷ 117 ∷ tail, spelled, (tail, refl, low))
text_ending (AfterHighBackslash high) sound = let (tail, spelled, low) = four_low high in (117 ∷ tail, spelled, (tail, refl, low))
text_ending (AfterHighU high) sound = four_low high
text_ending (AfterHighHex high) sound = low_ending high 13 3 (99 ∷ 48 ∷ 48 ∷ []) 0xdc00 refl (refl, (refl, (refl, refl))) refl
text_ending (AfterHighTwoHex high two) sound =
    low_ending high two 2 (48 ∷ 48 ∷ []) ((two * 16 + 0) * 16 + 0) refl (refl, (refl, refl)) (low_test ((two * 16 + 0) * 16 + 0) (omega (arith, sound.1)) (omega (arith, sound.2)))
text_ending (AfterHighThreeHex high three) sound =
    low_ending high three 1 (48 ∷ []) (three * 16 + 0) refl (refl, refl) (low_test (three * 16 + 0) (omega (arith, sound.1)) (omega (arith, sound.2)))

-- what follows a text in its role
follows : (role : Role) (bytes : List ℕ) (place : Within) (frames : List Frame) → (rest : List ℕ) × (whole : Tree) × Follows role frames bytes rest whole × (nesting whole ≤ around frames (inner_depth (content role place bytes)))
follows as_value bytes place frames = closing frames (text bytes)
follows (as_key members) bytes place frames =
    let (more, whole, k, less) = member_closing members bytes null frames refl in
    (58 ∷ 110 ∷ 117 ∷ 108 ∷ 108 ∷ 125 ∷ more, whole, ([], 110 ∷ 117 ∷ 108 ∷ 108 ∷ [], [], more, null, no_members, refl, tt, ([], 110 ∷ 117 ∷ 108 ∷ 108 ∷ [], [], refl, tt, refl, tt), refl, k), less)

text_follows : (role : Role) (place : Within) (bytes inside spelled : List ℕ) (frames : List Frame) → EndsText place inside spelled
    → (rest : List ℕ) × (whole : Tree) × Completes (content role place bytes) frames rest whole × (nesting whole ≤ around frames (inner_depth (content role place bytes)))
text_follows as_value place bytes inside spelled frames ends =
    let (more, whole, k, less) = follows as_value (bytes ++ spelled) place frames in
    (inside ++ 34 ∷ more, whole, (inside, more, spelled, refl, ends, k), less)
text_follows (as_key members) place bytes inside spelled frames ends =
    let (more, whole, k, less) = follows (as_key members) (bytes ++ spelled) place frames in
    (inside ++ 34 ∷ more, whole, (inside, more, spelled, refl, ends, k), less)

-- Each sound state can be ended, with no level more.
abbrev pub Ending : Mode → List Frame → ℕ → Type 0
Ending mode frames most = (rest : List ℕ) × (whole : Tree) × Completes mode frames rest whole × (nesting whole ≤ most)

pub ending : (mode : Mode) (frames : List Frame) → IsSoundMode mode → Ending mode frames (depth (mode, frames))
ending value frames sound =
    let (more, whole, k, less) = closing frames null in
    (110 ∷ 117 ∷ 108 ∷ 108 ∷ more, whole, ([], 110 ∷ 117 ∷ 108 ∷ 108 ∷ [], more, null, refl, tt, refl, k), less)
ending first_item frames sound =
    let (more, whole, k, less) = closing frames (list no_items) in
    (93 ∷ more, whole, ([], more, no_items, refl, tt, k), less)
ending first_key frames sound =
    let (more, whole, k, less) = closing frames (object no_members) in
    (125 ∷ more, whole, ([], more, no_members, refl, tt, k), less)
ending (next_key listed) frames sound =
    let (more, whole, k, less) = member_closing listed [] null frames refl in (
      34 ∷ 34 ∷ 58 ∷ 110 ∷ 117 ∷ 108 ∷ 108 ∷ 125 ∷ more,
      whole,
      (
        34 ∷ 34 ∷ 58 ∷ 110 ∷ 117 ∷ 108 ∷ 108 ∷ [],
        [],
        more,
        [],
        null,
        no_members,
        refl,
        (34 ∷ 34 ∷ [], 110 ∷ 117 ∷ 108 ∷ 108 ∷ [], refl, ([], 34 ∷ 34 ∷ [], [], refl, tt, ([], refl, nothing), tt), ([], 110 ∷ 117 ∷ 108 ∷ 108 ∷ [], [], refl, tt, refl, tt)),
        refl,
        k,
      ),
      less,
    )
ending (colon listed key) frames sound = follows (as_key listed) key Plain frames
ending (letters [] tree) frames sound = absurd sound
ending (letters (letter ∷ left) tree) frames sound =
    let (more, whole, k, less) = closing frames tree in
    (letter ∷ (left ++ more), whole, (more, refl, k), less)
ending (digits place spelling) frames sound =
    let (tail, ends) = number_ending place in
    let (more, whole, k, less) = closing frames (number (spelling ++ tail)) in
    (tail ++ more, whole, (tail, more, refl, ends, k), less)
ending (content role place bytes) frames sound =
    let (inside, spelled, ends) = text_ending place sound in
    text_follows role place bytes inside spelled frames ends
ending (ended tree) frames sound = closing frames tree

-- where a text ends in a state, the machine has its tree, and no other
closes_deep : (frames : List Frame) (tree : Tree) (rest : List ℕ) (whole : Tree) → Closes frames tree rest whole → around frames (nesting tree) ≤ nesting whole
closes_deep [] tree rest whole (blank, same) = subst (λ (t : Tree). nesting tree ≤ nesting t) same (omega arith)
closes_deep (in_list items ∷ frames) tree rest whole (after, inside, more, others, e, blank, all, k) =
    let inner = closes_deep frames (list (and_items (then_item items tree) others)) more whole k in
    let one = then_item_nesting items tree in
    let every = and_items_nesting (then_item items tree) others in
    let grows = around_grows frames (1 + max (items_nesting items) (nesting tree)) (1 + items_nesting (and_items (then_item items tree) others)) (omega (arith, one, every)) in
    omega (arith, inner, grows)
closes_deep (in_member members key ∷ frames) tree rest whole (after, inside, more, others, e, blank, all, k) =
    let inner = closes_deep frames (object (and_members (then_member members (key, tree)) others)) more whole k in
    let one = then_member_nesting members key tree in
    let every = and_members_nesting (then_member members (key, tree)) others in
    let grows = around_grows frames (1 + max (members_nesting members) (nesting tree)) (1 + members_nesting (and_members (then_member members (key, tree)) others)) (omega (arith, one, every)) in
    omega (arith, inner, grows)

less_deep : (frames : List Frame) (n : ℕ) (tree : Tree) (rest : List ℕ) (whole : Tree) → n ≤ nesting tree → Closes frames tree rest whole → around frames n ≤ nesting whole
less_deep frames n tree rest whole h k = grind (arith, common_steps, closes_deep, around_grows)

member_deep : (frames : List Frame) (members : Members) (key : List ℕ) (tree : Tree) (others : Members) (rest : List ℕ) (whole : Tree) → Closes frames (object (and_members (then_member members (key, tree)) others)) rest whole
    → around frames (1 + members_nesting members) ≤ nesting whole
member_deep frames members key tree others rest whole k =
    let one = then_member_nesting members key tree in
    let every = and_members_nesting (then_member members (key, tree)) others in
    less_deep frames (1 + members_nesting members) (object (and_members (then_member members (key, tree)) others)) rest whole (omega (arith, one, every)) k

follows_deep : (role : Role) (place : Within) (bytes held : List ℕ) (frames : List Frame) (rest : List ℕ) (whole : Tree) → Follows role frames bytes rest whole → around frames (inner_depth (content role place held)) ≤ nesting whole
follows_deep as_value place bytes held frames rest whole k = closes_deep frames (text bytes) rest whole k
follows_deep (as_key members) place key held frames rest whole (after, inside, others, more, tree, behind, e, blank, v, all, k) = member_deep frames members key tree behind more whole k

-- A text that goes on from a state has its depth at least.
pub completes_deep : (mode : Mode) (frames : List Frame) (rest : List ℕ) (whole : Tree) → Completes mode frames rest whole → depth (mode, frames) ≤ nesting whole
completes_deep value frames rest whole (before, inside, more, tree, e, blank, v, k) = less_deep frames 0 tree more whole (omega arith) k
completes_deep first_item frames rest whole (inside, more, items, e, all, k) = less_deep frames 1 (list items) more whole (omega arith) k
completes_deep first_key frames rest whole (inside, more, members, e, all, k) = less_deep frames 1 (object members) more whole (omega arith) k
completes_deep (next_key listed) frames rest whole (one, inside, more, key, tree, behind, e, entry, all, k) = member_deep frames listed key tree behind more whole k
completes_deep (colon listed key) frames rest whole h = follows_deep (as_key listed) Plain key key frames rest whole h
completes_deep (letters [] tree) frames rest whole h = absurd h
completes_deep (letters (letter ∷ left) tree) frames rest whole (more, e, k) = closes_deep frames tree more whole k
completes_deep (digits place spelling) frames rest whole (tail, more, e, ends, k) = closes_deep frames (number (spelling ++ tail)) more whole k
completes_deep (content role place bytes) frames rest whole (inside, more, spelled, e, ends, k) = follows_deep role place (bytes ++ spelled) bytes frames more whole k
completes_deep (ended tree) frames rest whole k = closes_deep frames tree rest whole k
