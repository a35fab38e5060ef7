-- Tokens: what their loops keep, and what stands behind them.
use Rattle.std.proofs.Common.{◌≡◌, ℕ, zero, suc, ◌+◌, ◌-◌, ◌<◌, ◌≤◌, ◌==◌, ◌⊎◌, false, List, [], ◌∷◌, ◌++◌, inl, inr, length, get_or, take, drop, slice_range, IsTrue, Option, Some, None, option_map, Result, Ok, Err, IfOk, IfErr, refl, arith, ap, sym, subst, ◌∙◌, append_assoc, append-nil, add-one}
use Rattle.std.{specs.Result.IsErrAnd, specs.Str.{IsUtf8, IsCharBoundary}, proofs.lemmas.Str.IsCharBoundary-after_ascii, proofs.lemmas.Bool.Decides.nat_tests}
use Rattle.std.{specs.Char.encode_utf8, proofs.Math.Seq.drop-cons, proofs.lemmas.List.drop_all, proofs.lemmas.Grind.common_steps}
use Rattle.json_text.specs.{Classes.{is_blank, is_plain}, Tree.{Tree, number, no_items, Members, no_members}, Depth.{inner_depth, around}, Places.most_levels}
use Rattle.json_text.specs.Tree as trees
use Rattle.json_text.specs.Machine.{Frame, in_list, Role, as_value, as_key, Mode, value, first_item, first_key, next_key, colon, letters, digits, content, ended, State, step, start, own_level, begin, close, first_digit, digits_after, next_digit, may_end, after_value, moves, moved, text_ended, with_frames}
use Rattle.json_text.specs.Reached.{ended_tree, Reaches, Alike, Stands, Carries, word_mode, ReadsWord, StopsWord, ReadsDigits, StopsDigits, ReadsContent, ReadsText, StopsText}
use Rattle.json_text.specs.{Outcome.{StopsAt, DeepAt, Fault, fault_at}, declared.state.Awaits.TheVariants.Ended, declared.state.Open.Open, View.tree_of}
use Rattle.json_text.specs.States.{frames_of, mode_of, StepGives, Arrives, SpellsNumber, ReadsNumber, StopsNumber, ReadsQuoted, StopsQuoted}
use Rattle.json_text.specs.declared.state.{Digits.Digits, Within.Within, Within.TheVariants.Plain, Move.Move, Stop.Stop, Awaits.Awaits}
use Rattle.json_text.specs.declared.state.Move.TheVariants as moving
use Rattle.json_text.specs.declared.state.Stop.TheVariants as stops
use Rattle.json_text.{specs.declared.tree.Json.Json, proofs.Variants.{tree_of-number, tree_of-text}, proofs.Stack.length_frames}
use Rattle.json_text.specs.declared.tree.Json as json
use Rattle.json_text.proofs.Runs.{below_or, carry_on, takes, refuses, opens_deep, reached_stands, stands_alike, carried, stops_here, range_grows, range_begins}
use Rattle.json_text.proofs.Choices.{unless, not_equal}

-- White space leads from a state to itself.
blank_stays : (awaits : Awaits) (frames : List Frame) (b : ℕ) → IsTrue (is_blank b) → step b (mode_of awaits) frames ≡ Some (mode_of awaits, frames)
blank_stays awaits frames b h = grind (arith, common_steps)

blanks_stay : (bytes : List ℕ) (i n : ℕ) (awaits : Awaits) (stack : List Open) → Stands bytes i (mode_of awaits, frames_of stack) → i + n ≤ length bytes → ((k : ℕ) → i ≤ k → k < i + n → IsTrue (is_blank (get_or bytes k 0)))
    → own_level (mode_of awaits) + length stack ≤ most_levels → Stands bytes (i + n) (mode_of awaits, frames_of stack)
blanks_stay bytes i zero awaits stack stands short blank room = let same : i ≡ i + 0 = omega arith in subst (λ n. Stands bytes n (mode_of awaits, frames_of stack)) same stands
blanks_stay bytes i (suc n) awaits stack stands short blank room =
    let next : i + n + 1 ≡ i + suc n = omega arith in
    let before = blanks_stay bytes i n awaits stack stands (omega (arith, short)) (λ k low high. blank k low (omega (arith, high))) room in
    let size = length_frames stack in
    let step_is = blank_stays awaits (frames_of stack) (get_or bytes (i + n) 0) (blank (i + n) (omega arith) (omega arith)) in
    subst (λ n. Stands bytes n (mode_of awaits, frames_of stack)) next
    (reached_stands bytes (i + n + 1) (mode_of awaits, frames_of stack) (takes bytes (i + n) (mode_of awaits, frames_of stack) (mode_of awaits, frames_of stack) before (omega (arith, short)) step_is (omega (arith, room, size))))

-- where the machine stands it stands behind white space
pub blank_passed : (bytes : List ℕ) (i j : ℕ) (awaits : Awaits) (stack : List Open) → Stands bytes i (mode_of awaits, frames_of stack) → i ≤ j → j ≤ length bytes → ((k : ℕ) → i ≤ k → k < j → IsTrue (is_blank (get_or bytes k 0)))
    → own_level (mode_of awaits) + length stack ≤ most_levels → Stands bytes j (mode_of awaits, frames_of stack)
blank_passed bytes i j awaits stack stands low high blank room =
    let same : i + (j - i) ≡ j = omega (arith, low) in
    subst (λ n. Stands bytes n (mode_of awaits, frames_of stack)) same
    (blanks_stay bytes i (j - i) awaits stack stands (omega (arith, low, high)) (λ k below above. blank k below (omega (arith, above, low))) room)

-- A word, letter by letter.
pub letter_read : (b : ℕ) (left : List ℕ) (tree : Tree) (frames : List Frame) → step b (letters (b ∷ left) tree) frames ≡ Some (word_mode left tree, frames)
letter_read b left tree frames = grind (arith, common_steps)

pub letter_refused : (b letter : ℕ) (left : List ℕ) (tree : Tree) (frames : List Frame) → (b ≡ letter → ⊥) → step b (letters (letter ∷ left) tree) frames ≡ None
letter_refused b letter left tree frames h = grind (arith, common_steps)

-- A text, byte by byte.
pub content_moves : (bytes : List ℕ) (i k : ℕ) (first last next : Within) (added : List ℕ) → ReadsContent bytes i k first last added → k < length bytes → moves (get_or bytes k 0) last ≡ moving.Goes next
    → ReadsContent bytes i (k + 1) first next added
content_moves bytes i k first last next added reads short e = λ role held frames.
    carry_on bytes i k (content role first held, frames) (content role last (held ++ added)) frames (content role next (held ++ added), frames) (reads role held frames) short
    (ap (λ (move : Move). option_map (with_frames frames) (moved role (held ++ added) move)) e)

pub content_adds : (bytes : List ℕ) (i k : ℕ) (first last : Within) (added : List ℕ) (b : ℕ) → ReadsContent bytes i k first last added → k < length bytes → moves (get_or bytes k 0) last ≡ moving.Adds b
    → ReadsContent bytes i (k + 1) first Plain (added ++ b ∷ [])
content_adds bytes i k first last added b reads short e = λ role held frames.
    subst (λ all. Carries bytes i (k + 1) (content role first held, frames) (content role Plain all, frames)) (append_assoc held added (b ∷ []))
    (carry_on bytes i k (content role first held, frames) (content role last (held ++ added)) frames (content role Plain ((held ++ added) ++ b ∷ []), frames) (reads role held frames) short
    (ap (λ (move : Move). option_map (with_frames frames) (moved role (held ++ added) move)) e))

pub content_spells : (bytes : List ℕ) (i k : ℕ) (first last : Within) (added : List ℕ) (code : ℕ) → ReadsContent bytes i k first last added → k < length bytes → moves (get_or bytes k 0) last ≡ moving.Spells code
    → ReadsContent bytes i (k + 1) first Plain (added ++ encode_utf8 code)
content_spells bytes i k first last added code reads short e = λ role held frames.
    subst (λ all. Carries bytes i (k + 1) (content role first held, frames) (content role Plain all, frames)) (append_assoc held added (encode_utf8 code))
    (carry_on bytes i k (content role first held, frames) (content role last (held ++ added)) frames (content role Plain ((held ++ added) ++ encode_utf8 code), frames) (reads role held frames) short
    (ap (λ (move : Move). option_map (with_frames frames) (moved role (held ++ added) move)) e))

-- nothing read yet
pub content_begins : (bytes : List ℕ) (i : ℕ) (first : Within) → ReadsContent bytes i i first first []
content_begins bytes i first = λ role held frames at. at ∙ ap (λ all. Some (content role first all, frames)) (sym (append-nil held))

-- one part behind another
pub content_joins : (bytes : List ℕ) (i j k : ℕ) (first middle last : Within) (front back : List ℕ) → ReadsContent bytes i j first middle front → ReadsContent bytes j k middle last back
    → ReadsContent bytes i k first last (front ++ back)
content_joins bytes i j k first middle last front back reads further = λ role held frames at.
    further role (held ++ front) frames (reads role held frames at) ∙ ap (λ all. Some (content role last all, frames)) (append_assoc held front back)

plain_moves : (b : ℕ) → IsTrue (is_plain b) → moves b Plain ≡ moving.Adds b
plain_moves b h = grind (arith, nat_tests)

plains_read : (bytes : List ℕ) (i n : ℕ) → i + n ≤ length bytes → ((k : ℕ) → i ≤ k → k < i + n → IsTrue (is_plain (get_or bytes k 0))) → ReadsContent bytes i (i + n) Plain Plain (slice_range bytes i (i + n))
plains_read bytes i zero short plain = grind (arith, common_steps)
plains_read bytes i (suc n) short plain =
    let next : i + n + 1 ≡ i + suc n = omega arith in
    let before = plains_read bytes i n (omega (arith, short)) (λ k low high. plain k low (omega (arith, high))) in
    let b = get_or bytes (i + n) 0 in
    subst (λ n. ReadsContent bytes i n Plain Plain (slice_range bytes i n)) next
    (subst (ReadsContent bytes i (i + n + 1) Plain Plain) (sym (range_grows bytes i (i + n) (omega arith) (omega (arith, short))))
    (content_adds bytes i (i + n) Plain Plain (slice_range bytes i (i + n)) b before (omega (arith, short)) (plain_moves b (plain (i + n) (omega arith) (omega arith)))))

-- bytes that stand for themselves
pub plain_read : (bytes : List ℕ) (i j : ℕ) → i ≤ j → j ≤ length bytes → ((k : ℕ) → i ≤ k → k < j → IsTrue (is_plain (get_or bytes k 0))) → ReadsContent bytes i j Plain Plain (slice_range bytes i j)
plain_read bytes i j low high plain =
    let same : i + (j - i) ≡ j = omega (arith, low) in
    subst (λ n. ReadsContent bytes i n Plain Plain (slice_range bytes i n)) same (plains_read bytes i (j - i) (omega (arith, low, high)) (λ k below above. plain k below (omega (arith, above, low))))

-- the closing quote
quote_ends : (role : Role) (spelled : List ℕ) (frames : List Frame) → step 34 (content role Plain spelled) frames ≡ Some (text_ended role spelled, frames)
quote_ends role spelled frames = refl

pub text_read : (bytes : List ℕ) (i k : ℕ) (spelled : List ℕ) → ReadsContent bytes i k Plain Plain spelled → k < length bytes → get_or bytes k 0 ≡ 34 → ReadsText bytes i (k + 1) spelled
text_read bytes i k spelled reads short e = λ role frames.
    carry_on bytes i k (content role Plain [], frames) (content role Plain spelled) frames (text_ended role spelled, frames) (reads role [] frames) short
    (subst (λ b. step b (content role Plain spelled) frames ≡ Some (text_ended role spelled, frames)) (sym e) (quote_ends role spelled frames))

-- a byte that can't stand in a text
pub other_refused : (b : ℕ) → is_plain b ≡ false → (b ≡ 34 → ⊥) → (b ≡ 92 → ⊥) → moves b Plain ≡ moving.Refused
other_refused b h g k = grind (arith, nat_tests)

-- a stop behind one part is a stop of the whole
pub stops_behind : (stop : Stop) (bytes : List ℕ) (i j k : ℕ) (front : List ℕ) → ReadsContent bytes i j Plain Plain front → StopsText stop bytes j k → StopsText stop bytes i k
stops_behind stops.Refused bytes i j k front reads (last, added, further, refused) = (last, front ++ added, content_joins bytes i j k Plain Plain last front added reads further, refused)
stops_behind stops.TooDeep bytes i j k front reads h = h
stops_behind stops.NoMemory bytes i j k front reads h = tt

text_depth : (role : Role) (place other : Within) (held spelled : List ℕ) → inner_depth (content role place held) ≡ inner_depth (content role other spelled)
text_depth as_value place other held spelled = refl
text_depth (as_key listed) place other held spelled = refl

-- where a text stops reading stops
pub text_fault : (stop : Stop) (bytes : List ℕ) (i j : ℕ) (role : Role) (frames : List Frame) → Reaches (take i bytes) (content role Plain [], frames) → j ≤ length bytes → StopsText stop bytes i j → Fault (fault_at stop j) bytes
text_fault stops.Refused bytes i j role frames reach most (last, added, reads, refused) =
    let same = text_depth role Plain last [] added in
    let less : around frames (inner_depth (content role last added)) ≤ around frames (inner_depth (content role Plain [])) = subst (λ n. around frames n ≤ around frames (inner_depth (content role Plain []))) same (omega arith) in
    stops_here bytes j (content role last added, frames) (carried bytes i j (content role Plain [], frames) (content role last added, frames) reach (reads role [] frames) less) most
    (λ short. ap (λ (move : Move). option_map (with_frames frames) (moved role added move)) (refused short)) refl
text_fault stops.TooDeep bytes i j role frames reach most h = absurd h
text_fault stops.NoMemory bytes i j role frames reach most h = tt

-- A number, digit by digit.
pub digit_read : (bytes : List ℕ) (i k : ℕ) (first last next : Digits) → i ≤ k → ReadsDigits bytes i k first last → k < length bytes → digits_after (get_or bytes k 0) last ≡ Some next → ReadsDigits bytes i (k + 1) first next
digit_read bytes i k first last next low reads short e = λ spelling frames.
    let b = get_or bytes k 0 in
    let all = spelling ++ slice_range bytes i k in
    subst (λ xs. Carries bytes i (k + 1) (digits first spelling, frames) (digits next xs, frames)) (append_assoc spelling (slice_range bytes i k) (b ∷ []) ∙ ap (λ xs. spelling ++ xs) (sym (range_grows bytes i k low short)))
    (carry_on bytes i k (digits first spelling, frames) (digits last all) frames (digits next (all ++ b ∷ []), frames) (reads spelling frames) short (ap (next_digit b last all frames) e))

-- what holds up to a place and there
pub all_more : (P : ℕ → Type 0) (i n : ℕ) → ((k : ℕ) → i ≤ k → k < n → P k) → P n → (k : ℕ) → i ≤ k → k < n + 1 → P k
all_more P i n before here k low high = grind (arith, common_steps)

-- A word's letter that is read, one that is not, and the end.
pub word_next : (bytes : List ℕ) (i k : ℕ) (left : List ℕ) (n : ℕ) → ((tree : Tree) (frames : List Frame) → Carries bytes i k (word_mode left tree, frames) (word_mode (drop n left) tree, frames)) → n < length left → k < length bytes
    → get_or bytes k 0 ≡ get_or left n 0 → (tree : Tree) (frames : List Frame) → Carries bytes i (k + 1) (word_mode left tree, frames) (word_mode (drop (n + 1) left) tree, frames)
word_next bytes i k left n reads inside short same tree frames =
    let front : drop n left ≡ get_or left n 0 ∷ drop (n + 1) left = rw add-one (drop-cons left n 0 inside) in
    let before : Carries bytes i k (word_mode left tree, frames) (letters (get_or left n 0 ∷ drop (n + 1) left) tree, frames) =
    subst (λ xs. Carries bytes i k (word_mode left tree, frames) (word_mode xs tree, frames)) front (reads tree frames) in
    carry_on bytes i k (word_mode left tree, frames) (letters (get_or left n 0 ∷ drop (n + 1) left) tree) frames (word_mode (drop (n + 1) left) tree, frames) before short
    (subst (λ b. step b (letters (get_or left n 0 ∷ drop (n + 1) left) tree) frames ≡ Some (word_mode (drop (n + 1) left) tree, frames)) (sym same) (letter_read (get_or left n 0) (drop (n + 1) left) tree frames))

pub word_stops : (bytes : List ℕ) (i k : ℕ) (left : List ℕ) (n : ℕ) → ((tree : Tree) (frames : List Frame) → Carries bytes i k (word_mode left tree, frames) (word_mode (drop n left) tree, frames)) → n < length left
    → (k < length bytes → get_or bytes k 0 ≡ get_or left n 0 → ⊥) → StopsWord bytes i k left
word_stops bytes i k left n reads inside other =
    let front : drop n left ≡ get_or left n 0 ∷ drop (n + 1) left = rw add-one (drop-cons left n 0 inside) in
    (get_or left n 0, drop (n + 1) left, λ tree frames. subst (λ xs. Carries bytes i k (word_mode left tree, frames) (word_mode xs tree, frames)) front (reads tree frames), other)

pub word_ends : (bytes : List ℕ) (i k : ℕ) (left : List ℕ) (n : ℕ) → ((tree : Tree) (frames : List Frame) → Carries bytes i k (word_mode left tree, frames) (word_mode (drop n left) tree, frames)) → length left ≤ n → ReadsWord bytes i k left
word_ends bytes i k left n reads all tree frames = subst (λ xs. Carries bytes i k (word_mode left tree, frames) (word_mode xs tree, frames)) (drop_all n left all) (reads tree frames)

-- Bytes that stand for themselves, behind what was read of a text; and an escape behind it.
pub plain_taken : (text bytes : List ℕ) (i j k : ℕ) (held new : List ℕ) → bytes ≡ text → ReadsContent text i j Plain Plain held → j ≤ k → k ≤ length bytes → ((n : ℕ) → j ≤ n → n < k → IsTrue (is_plain (get_or bytes n 0)))
    → new ≡ held ++ slice_range text j k → ReadsContent text i k Plain Plain new
plain_taken text bytes i j k held new same reads low high plain e =
    let further : ReadsContent text j k Plain Plain (slice_range text j k) = subst (λ (xs : List ℕ). ReadsContent xs j k Plain Plain (slice_range xs j k)) same (plain_read bytes j k low high plain) in
    subst (ReadsContent text i k Plain Plain) (sym e) (content_joins text i j k Plain Plain Plain held (slice_range text j k) reads further)

pub escape_taken : (text bytes : List ℕ) (i j k code : ℕ) (held new : List ℕ) → bytes ≡ text → ReadsContent text i j Plain Plain held → ReadsContent bytes j k Plain Plain (encode_utf8 code) → new ≡ held ++ encode_utf8 code
    → ReadsContent text i k Plain Plain new
escape_taken text bytes i j k code held new same reads further e =
    subst (ReadsContent text i k Plain Plain) (sym e)
    (content_joins text i j k Plain Plain Plain held (encode_utf8 code) reads (subst (λ (xs : List ℕ). ReadsContent xs j k Plain Plain (encode_utf8 code)) same further))

-- a control character, and the end, behind what was read of a text
pub other_stops : (text bytes : List ℕ) (i k : ℕ) (held : List ℕ) → bytes ≡ text → ReadsContent text i k Plain Plain held → is_plain (get_or bytes k 0) ≡ false → (get_or bytes k 0 ≡ 34 → ⊥) → (get_or bytes k 0 ≡ 92 → ⊥)
    → StopsText stops.Refused text i k
other_stops text bytes i k held same reads other quote slash = (Plain, held, reads, λ short. subst (λ (xs : List ℕ). moves (get_or xs k 0) Plain ≡ moving.Refused) same (other_refused (get_or bytes k 0) other quote slash))

pub end_stops : (text bytes : List ℕ) (i k : ℕ) (held : List ℕ) → bytes ≡ text → ReadsContent text i k Plain Plain held → k ≡ length bytes → StopsText stops.Refused text i k
end_stops text bytes i k held same reads all = (Plain, held, reads, λ short. let size : length bytes ≡ length text = ap (λ (xs : List ℕ). length xs) same in absurd (omega (arith, short, all, size)))

-- an error that is handed on
pub handed_on : {A E : Type 0} (P : E → Type 0) (result : Result A E) (given : E) → IsErrAnd result (λ err. err ≡ given) → P given → IfErr result P
handed_on P result given h p = grind (arith, common_steps)

-- behind an ASCII byte a text may be cut
pub cut_behind : (text : List ℕ) (i j : ℕ) → IsUtf8 text → i + 1 ≡ j → i < length text → get_or text i 0 < 128 → IsCharBoundary text j
cut_behind text i j utf8 next short low = subst (IsCharBoundary text) next (IsCharBoundary-after_ascii text i utf8 short low)

pub number_boundary : (text bytes : List ℕ) (i j : ℕ) → bytes ≡ text → IsUtf8 text → i + 1 ≤ j → j ≤ length bytes → get_or bytes i 0 < 128 → ((k : ℕ) → i + 1 ≤ k → k < j → get_or bytes k 0 < 128) → IsCharBoundary text j
number_boundary text bytes i j same utf8 low high first ascii =
    let size : length bytes ≡ length text = ap (λ (xs : List ℕ). length xs) same in
    elim (below_or (i + 1) j low) [
      | inl less ↦ cut_behind text (j - 1) j utf8 (omega (arith, low)) (omega (arith, high, size, low)) (subst (λ (xs : List ℕ). get_or xs (j - 1) 0 < 128) same (ascii (j - 1) (omega (arith, less)) (omega (arith, low))))
      | inr all ↦ cut_behind text i j utf8 all (omega (arith, high, size, low)) (subst (λ (xs : List ℕ). get_or xs i 0 < 128) same first)
    ]

-- A number that was read, with its spelling.
spells_here : (bytes : List ℕ) (i j : ℕ) (first last : Digits) → first_digit (get_or bytes i 0) ≡ Some first → ReadsDigits bytes (i + 1) j first last → StopsDigits bytes j last → i + 1 ≤ j → j ≤ length bytes
    → SpellsNumber bytes i j last (slice_range bytes i j)
spells_here bytes i j first last e reads stops low high =
    (first, e, λ frames. subst (λ xs. Carries bytes (i + 1) j (digits first (get_or bytes i 0 ∷ []), frames) (digits last xs, frames)) (sym (range_begins bytes i j (omega (arith, low)) high)) (reads (get_or bytes i 0 ∷ []) frames), stops)

pub spells_number : (text bytes : List ℕ) (i j : ℕ) (first last : Digits) → bytes ≡ text → first_digit (get_or bytes i 0) ≡ Some first → ReadsDigits bytes (i + 1) j first last → StopsDigits bytes j last → i + 1 ≤ j → j ≤ length bytes
    → SpellsNumber text i j last (slice_range text i j)
spells_number text bytes i j first last same e reads stops low high = subst (λ (xs : List ℕ). SpellsNumber xs i j last (slice_range xs i j)) same (spells_here bytes i j first last e reads stops low high)

-- Where a value has to come, its first byte leads on, to a state with these frames.
pub opens : (bytes : List ℕ) (i b : ℕ) (mode : Mode) (stack : List Open) → Stands bytes i (value, frames_of stack) → i < length bytes → get_or bytes i 0 ≡ b → step b value (frames_of stack) ≡ Some (mode, frames_of stack)
    → own_level mode + length stack ≤ most_levels → Reaches (take (i + 1) bytes) (mode, frames_of stack)
opens bytes i b mode stack stands short is e room =
    let size = length_frames stack in
    takes bytes i (value, frames_of stack) (mode, frames_of stack) stands short (subst (λ c. step c value (frames_of stack) ≡ Some (mode, frames_of stack)) (sym is) e) (omega (arith, room, size))

pub opens_stand : (bytes : List ℕ) (i b : ℕ) (mode : Mode) (stack : List Open) → Stands bytes i (value, frames_of stack) → i < length bytes → get_or bytes i 0 ≡ b → step b value (frames_of stack) ≡ Some (mode, frames_of stack)
    → own_level mode + length stack ≤ most_levels → Stands bytes (i + 1) (mode, frames_of stack)
opens_stand bytes i b mode stack stands short is e room = reached_stands bytes (i + 1) (mode, frames_of stack) (opens bytes i b mode stack stands short is e room)

-- a bracket that opens one level too many
pub full_deep : (bytes : List ℕ) (i : ℕ) (stack : List Open) → Stands bytes i (value, frames_of stack) → i < length bytes → (get_or bytes i 0 ≡ 91) ⊎ (get_or bytes i 0 ≡ 123) → length stack ≡ most_levels → DeepAt bytes i
full_deep bytes i stack stands short is full =
    let size = length_frames stack in
    elim is [
      | inl list ↦ opens_deep bytes i (value, frames_of stack) (first_item, frames_of stack) stands short (subst (λ c. step c value (frames_of stack) ≡ Some (first_item, frames_of stack)) (sym list) refl) (omega (arith, full, size))
      | inr object ↦ opens_deep bytes i (value, frames_of stack) (first_key, frames_of stack) stands short (subst (λ c. step c value (frames_of stack) ≡ Some (first_key, frames_of stack)) (sym object) refl) (omega (arith, full, size))
    ]

-- a text that is a value
pub text_arrives : (bytes : List ℕ) (i j : ℕ) (spelled : List ℕ) (stack : List Open) → Stands bytes i (value, frames_of stack) → i < length bytes → get_or bytes i 0 ≡ 34 → length stack ≤ most_levels → ReadsText bytes (i + 1) j spelled
    → Stands bytes j (ended (tree_of (json.Text spelled)), frames_of stack)
text_arrives bytes i j spelled stack stands short is room reads =
    subst (λ (held : Tree). Stands bytes j (ended held, frames_of stack)) (sym (tree_of-text spelled)) (
    reached_stands bytes j (ended (trees.text spelled), frames_of stack)
    (carried bytes (i + 1) j (content as_value Plain [], frames_of stack) (ended (trees.text spelled), frames_of stack) (opens bytes i 34 (content as_value Plain []) stack stands short is refl (omega (arith, room))) (reads as_value (frames_of stack)) (omega arith)))

pub text_fails : (stop : Stop) (bytes : List ℕ) (i j : ℕ) (stack : List Open) → Stands bytes i (value, frames_of stack) → i < length bytes → get_or bytes i 0 ≡ 34 → length stack ≤ most_levels → j ≤ length bytes → StopsText stop bytes (i + 1) j
    → Fault (fault_at stop j) bytes
text_fails stop bytes i j stack stands short is room most stops =
    text_fault stop bytes (i + 1) j as_value (frames_of stack) (opens bytes i 34 (content as_value Plain []) stack stands short is refl (omega (arith, room))) most stops

-- a word
pub word_arrives : (bytes : List ℕ) (i j b letter : ℕ) (left : List ℕ) (tree : Tree) (stack : List Open) → Stands bytes i (value, frames_of stack) → i < length bytes → get_or bytes i 0 ≡ b
    → step b value (frames_of stack) ≡ Some (letters (letter ∷ left) tree, frames_of stack) → length stack ≤ most_levels → ReadsWord bytes (i + 1) j (letter ∷ left) → Stands bytes j (ended tree, frames_of stack)
word_arrives bytes i j b letter left tree stack stands short is e room reads =
    reached_stands bytes j (ended tree, frames_of stack)
    (carried bytes (i + 1) j (letters (letter ∷ left) tree, frames_of stack) (ended tree, frames_of stack) (opens bytes i b (letters (letter ∷ left) tree) stack stands short is e (omega (arith, room))) (reads tree (frames_of stack)) (omega arith))

pub word_fails : (bytes : List ℕ) (i j b letter : ℕ) (left : List ℕ) (tree : Tree) (stack : List Open) → Stands bytes i (value, frames_of stack) → i < length bytes → get_or bytes i 0 ≡ b
    → step b value (frames_of stack) ≡ Some (letters (letter ∷ left) tree, frames_of stack) → length stack ≤ most_levels → j ≤ length bytes → StopsWord bytes (i + 1) j (letter ∷ left) → StopsAt bytes j
word_fails bytes i j b letter left tree stack stands short is e room most (missed, rest, reads, other) =
    stops_here bytes j (letters (missed ∷ rest) tree, frames_of stack)
    (carried bytes (i + 1) j (letters (letter ∷ left) tree, frames_of stack) (letters (missed ∷ rest) tree, frames_of stack) (opens bytes i b (letters (letter ∷ left) tree) stack stands short is e (omega (arith, room))) (reads tree (frames_of stack)) (omega arith))
    most (λ near. letter_refused (get_or bytes j 0) missed rest tree (frames_of stack) (other near)) refl

-- a number
first_range : (b : ℕ) (first : Digits) → first_digit b ≡ Some first → (b ≡ 45) ⊎ ((48 ≤ b) × (b < 58))
first_range b first e = grind (arith, common_steps)

pub number_other : (b : ℕ) (frames : List Frame) → (b ≡ 91 → ⊥) → (b ≡ 123 → ⊥) → (b ≡ 34 → ⊥) → (b ≡ 110 → ⊥) → (b ≡ 116 → ⊥) → (b ≡ 102 → ⊥) → begin b frames ≡ option_map (λ (place : Digits). (digits place (b ∷ []), frames)) (first_digit b)
number_other b frames h1 h2 h3 h4 h5 h6 = grind (arith, common_steps)

black_begins : (b : ℕ) (frames : List Frame) → is_blank b ≡ false → step b value frames ≡ begin b frames
black_begins b frames h = unless (λ (o : Option State). o ≡ begin b frames) (is_blank b) _ _ h refl

apart : (b n : ℕ) → (58 ≤ n) ⊎ (n < 45) → (b ≡ 45) ⊎ ((48 ≤ b) × (b < 58)) → b ≡ n → ⊥
apart b n far range same = grind (arith, common_steps)

number_opens : (bytes : List ℕ) (i : ℕ) (first : Digits) (stack : List Open) → Stands bytes i (value, frames_of stack) → i < length bytes → is_blank (get_or bytes i 0) ≡ false → first_digit (get_or bytes i 0) ≡ Some first → length stack ≤ most_levels
    → Reaches (take (i + 1) bytes) (digits first (get_or bytes i 0 ∷ []), frames_of stack)
number_opens bytes i first stack stands short black e room =
    let b = get_or bytes i 0 in
    let frames = frames_of stack in
    let range = first_range b first e in
    let other : (n : ℕ) → ((b ≡ 45) ⊎ ((48 ≤ b) × (b < 58)) → b ≡ n → ⊥) → b ≡ n → ⊥ = λ n h same. h range same in
    opens bytes i b (digits first (b ∷ [])) stack stands short refl
    (black_begins b frames black
    ∙ number_other b frames (other 91 (apart b 91 (inl (omega arith)))) (other 123 (apart b 123 (inl (omega arith)))) (other 34 (apart b 34 (inr (omega arith)))) (other 110 (apart b 110 (inl (omega arith)))) (other 116 (apart b 116 (inl (omega arith)))) (other 102 (apart b 102 (inl (omega arith))))
    ∙ ap (option_map (λ (place : Digits). (digits place (b ∷ []), frames))) e)
    (omega (arith, room))

number_unfinished : (last : Digits) (spelling : List ℕ) (frames : List Frame) → may_end last ≡ false → ended_tree (digits last spelling, frames) ≡ None
number_unfinished last spelling frames may = grind (arith, common_steps)

number_ended : (bytes : List ℕ) (j : ℕ) (last : Digits) (spelling : List ℕ) (frames : List Frame) → StopsDigits bytes j last → IsTrue (may_end last) → Alike bytes j (digits last spelling, frames) (ended (number spelling), frames)
number_ended bytes j last spelling frames stops may = grind (arith, common_steps)

pub number_arrives : (bytes : List ℕ) (i j : ℕ) (spelling : List ℕ) (stack : List Open) → Stands bytes i (value, frames_of stack) → i < length bytes → is_blank (get_or bytes i 0) ≡ false → length stack ≤ most_levels → ReadsNumber bytes i j spelling
    → Stands bytes j (ended (tree_of (json.Number spelling)), frames_of stack)
number_arrives bytes i j spelling stack stands short black room (further, (last, (first, e, reads, stops), may)) =
    let frames = frames_of stack in
    let reach = carried bytes (i + 1) j (digits first (get_or bytes i 0 ∷ []), frames) (digits last spelling, frames) (number_opens bytes i first stack stands short black e room) (reads frames) (omega arith) in
    subst (λ (held : Tree). Stands bytes j (ended held, frames)) (sym (tree_of-number spelling))
    (stands_alike bytes j (digits last spelling, frames) (ended (number spelling), frames) (reached_stands bytes j (digits last spelling, frames) reach) (number_ended bytes j last spelling frames stops may))

pub number_fails : (stop : Stop) (bytes : List ℕ) (i j : ℕ) (stack : List Open) → Stands bytes i (value, frames_of stack) → i < length bytes → is_blank (get_or bytes i 0) ≡ false → length stack ≤ most_levels → j ≤ length bytes
    → begin (get_or bytes i 0) (frames_of stack) ≡ option_map (λ (place : Digits). (digits place (get_or bytes i 0 ∷ []), frames_of stack)) (first_digit (get_or bytes i 0)) → StopsNumber stop bytes i j → Fault (fault_at stop j) bytes
number_fails stops.Refused bytes i j stack stands short black room most other (inl (here, none)) =
    subst (StopsAt bytes) (sym here)
    (refuses bytes i (value, frames_of stack) stands short
    (black_begins (get_or bytes i 0) (frames_of stack) black ∙ other ∙ ap (option_map (λ (place : Digits). (digits place (get_or bytes i 0 ∷ []), frames_of stack))) none))
number_fails stops.Refused bytes i j stack stands short black room most other (inr (last, spelling, (first, e, reads, stops), may)) =
    let frames = frames_of stack in
    stops_here bytes j (digits last spelling, frames)
    (carried bytes (i + 1) j (digits first (get_or bytes i 0 ∷ []), frames) (digits last spelling, frames) (number_opens bytes i first stack stands short black e room) (reads frames) (omega arith))
    most
    (λ near. ap (next_digit (get_or bytes j 0) last spelling frames) (stops near) ∙ unless (λ (o : Option State). o ≡ None) (may_end last) _ _ may refl)
    (number_unfinished last spelling frames may)
number_fails stops.TooDeep bytes i j stack stands short black room most other h = absurd h
number_fails stops.NoMemory bytes i j stack stands short black room most other h = tt

-- What the tokens of a value give: a bracket, a word, a text, a number.
pub bracket_turn : (bytes : List ℕ) (i j b : ℕ) (next : Awaits) (stack : List Open) (result : Result Awaits Stop) → Stands bytes i (value, frames_of stack) → i < length bytes → get_or bytes i 0 ≡ b → (b ≡ 91) ⊎ (b ≡ 123)
    → step b value (frames_of stack) ≡ Some (mode_of next, frames_of stack) → own_level (mode_of next) ≡ 1 → IfOk result (λ opened. (opened ≡ next) × (length stack < most_levels) × (j ≡ i + 1))
    → IfErr result (λ stop. (stop ≡ stops.TooDeep) × (length stack ≡ most_levels) × (j ≡ i)) → Arrives result bytes i j stack
bracket_turn bytes i j b next stack (Ok opened) stands short is bracket e own (same, room, there) full =
    subst (λ (to : Awaits). (i < j) × Stands bytes j (mode_of to, frames_of stack) × (own_level (mode_of to) + length stack ≤ most_levels)) (sym same)
    (omega (arith, there), subst (λ n. Stands bytes n (mode_of next, frames_of stack)) (sym there) (opens_stand bytes i b (mode_of next) stack stands short is e (omega (arith, own, room))), omega (arith, own, room))
bracket_turn bytes i j b next stack (Err stop) stands short is bracket e own opened (same, full, here) = grind (arith, common_steps, full_deep)

pub word_turn : (bytes text : List ℕ) (i j b letter : ℕ) (left : List ℕ) (held : Json) (tree : Tree) (stack : List Open) (result : Result Awaits Stop) → tree_of held ≡ tree → bytes ≡ text → Stands text i (value, frames_of stack) → i < length text
    → get_or text i 0 ≡ b → step b value (frames_of stack) ≡ Some (letters (letter ∷ left) tree, frames_of stack) → length stack ≤ most_levels → (i < j) × (j ≤ length bytes)
    → IfOk result (λ next. (next ≡ Ended held) × ReadsWord bytes (i + 1) j (letter ∷ left)) → IfErr result (λ stop. (stop ≡ stops.Refused) × StopsWord bytes (i + 1) j (letter ∷ left)) → Arrives result text i j stack
word_turn bytes whole i j b letter left held tree stack (Ok next) seen same stands short is e room place (ended_is, reads) stops =
    subst (λ (to : Awaits). (i < j) × Stands whole j (mode_of to, frames_of stack) × (own_level (mode_of to) + length stack ≤ most_levels)) (sym ended_is) (
      place.0,
      subst (λ (held : Tree). Stands whole j (ended held, frames_of stack)) (sym seen) (word_arrives whole i j b letter left tree stack stands short is e room (subst (λ (xs : List ℕ). ReadsWord xs (i + 1) j (letter ∷ left)) same reads)),
      omega (arith, room),
    )
word_turn bytes whole i j b letter left held tree stack (Err stop) seen same stands short is e room place reads (cause, stops) =
    let size : length bytes ≡ length whole = ap (λ (xs : List ℕ). length xs) same in
    subst (λ (at : Stop). Fault (fault_at at j) whole) (sym cause)
    (word_fails whole i j b letter left tree stack stands short is e room (omega (arith, place.1, size)) (subst (λ (xs : List ℕ). StopsWord xs (i + 1) j (letter ∷ left)) same stops))

pub quoted_fails : (stop : Stop) (bytes : List ℕ) (i j : ℕ) (stack : List Open) → Stands bytes i (value, frames_of stack) → i < length bytes → get_or bytes i 0 ≡ 34 → length stack ≤ most_levels → j ≤ length bytes → StopsQuoted stop bytes i j
    → Fault (fault_at stop j) bytes
quoted_fails stop bytes i j stack stands short is room most x10 = grind (arith, common_steps, text_fails)

-- an error that is handed on is a fault where it stopped
pub fault_handed : (result : Result Awaits Stop) (stop : Stop) (bytes : List ℕ) (i j : ℕ) (stack : List Open) → IsErrAnd result (λ err. err ≡ stop) → Fault (fault_at stop j) bytes → Arrives result bytes i j stack
fault_handed result stop bytes i j stack h p = grind (arith, common_steps)

-- Behind an opening bracket an item comes as a value in the list, and a key as any key.
pub item_alike : (bytes : List ℕ) (i : ℕ) (frames : List Frame) → is_blank (get_or bytes i 0) ≡ false → (get_or bytes i 0 ≡ 93 → ⊥) → Alike bytes i (first_item, frames) (value, in_list no_items ∷ frames)
item_alike bytes i frames black other = grind (arith, common_steps)

pub key_alike : (bytes : List ℕ) (i : ℕ) (frames : List Frame) → is_blank (get_or bytes i 0) ≡ false → (get_or bytes i 0 ≡ 125 → ⊥) → Alike bytes i (first_key, frames) (next_key no_members, frames)
key_alike bytes i frames black other = grind (arith, common_steps)

-- a key
key_opens : (bytes : List ℕ) (i : ℕ) (listed : Members) (stack : List Open) → Stands bytes i (next_key listed, frames_of stack) → i < length bytes → get_or bytes i 0 ≡ 34 → length stack < most_levels
    → Reaches (take (i + 1) bytes) (content (as_key listed) Plain [], frames_of stack)
key_opens bytes i listed stack stands short is room =
    let size = length_frames stack in
    takes bytes i (next_key listed, frames_of stack) (content (as_key listed) Plain [], frames_of stack) stands short
    (subst (λ b. step b (next_key listed) (frames_of stack) ≡ Some (content (as_key listed) Plain [], frames_of stack)) (sym is) refl) (omega (arith, room, size))

pub key_arrives : (bytes : List ℕ) (i j : ℕ) (listed : Members) (key : List ℕ) (stack : List Open) → Stands bytes i (next_key listed, frames_of stack) → i < length bytes → length stack < most_levels → ReadsQuoted bytes i j key
    → Stands bytes j (colon listed key, frames_of stack)
key_arrives bytes i j listed key stack stands short room (further, is, reads) =
    reached_stands bytes j (colon listed key, frames_of stack)
    (carried bytes (i + 1) j (content (as_key listed) Plain [], frames_of stack) (colon listed key, frames_of stack) (key_opens bytes i listed stack stands short is room) (reads (as_key listed) (frames_of stack)) (omega arith))

pub key_fails : (stop : Stop) (bytes : List ℕ) (i j : ℕ) (listed : Members) (stack : List Open) → Stands bytes i (next_key listed, frames_of stack) → i < length bytes → is_blank (get_or bytes i 0) ≡ false → length stack < most_levels → j ≤ length bytes
    → StopsQuoted stop bytes i j → Fault (fault_at stop j) bytes
key_fails stops.Refused bytes i j listed stack stands short black room most (inl (here, other)) =
    let b = get_or bytes i 0 in
    let P : Option State → Type 0 = λ o. o ≡ None in
    subst (StopsAt bytes) (sym here)
    (refuses bytes i (next_key listed, frames_of stack) stands short (unless P (is_blank b) _ _ black (unless P (b == 34) _ _ (not_equal b 34 other) refl)))
key_fails stops.Refused bytes i j listed stack stands short black room most (inr (is, content_stops)) =
    text_fault stops.Refused bytes (i + 1) j (as_key listed) (frames_of stack) (key_opens bytes i listed stack stands short is room) most content_stops
key_fails stops.TooDeep bytes i j listed stack stands short black room most h = absurd h
key_fails stops.NoMemory bytes i j listed stack stands short black room most h = tt

-- A byte by which the machine goes on, or stops.
pub given_goes : (bytes : List ℕ) (i : ℕ) (held : State) (next : Awaits) (stack : List Open) → Stands bytes i held → i < length bytes → StepGives (Ok next) stack (step (get_or bytes i 0) held.0 held.1) → Arrives (Ok next) bytes i (i + 1) stack
given_goes bytes i held next stack stands short (e, room) =
    let size = length_frames stack in
    (omega arith, reached_stands bytes (i + 1) (mode_of next, frames_of stack) (takes bytes i held (mode_of next, frames_of stack) stands short e (omega (arith, room, size))), room)

pub given_stops : (bytes : List ℕ) (i : ℕ) (held : State) (stop : Stop) (stack : List Open) → Stands bytes i held → i < length bytes → StepGives (Err stop) stack (step (get_or bytes i 0) held.0 held.1) → Fault (fault_at stop i) bytes
given_stops bytes i held stop stack stands short e = grind (arith, common_steps, refuses, opens_deep)

-- behind a value, where no white space comes
pub black_closes : (b : ℕ) (tree : Tree) (frames : List Frame) → is_blank b ≡ false → after_value b tree frames ≡ close b tree frames
black_closes b tree frames h = unless (λ (o : Option State). o ≡ close b tree frames) (is_blank b) _ _ h refl

-- the empty list and the empty object
pub list_ends : (bytes : List ℕ) (i : ℕ) (stack : List Open) → Stands bytes i (first_item, frames_of stack) → i < length bytes → get_or bytes i 0 ≡ 93 → length stack < most_levels → Stands bytes (i + 1) (ended (trees.list no_items), frames_of stack)
list_ends bytes i stack stands short is room =
    let size = length_frames stack in
    reached_stands bytes (i + 1) (ended (trees.list no_items), frames_of stack)
    (takes bytes i (first_item, frames_of stack) (ended (trees.list no_items), frames_of stack) stands short (subst (λ b. step b first_item (frames_of stack) ≡ Some (ended (trees.list no_items), frames_of stack)) (sym is) refl) (omega (arith, room, size)))

pub object_ends : (bytes : List ℕ) (i : ℕ) (stack : List Open) → Stands bytes i (first_key, frames_of stack) → i < length bytes → get_or bytes i 0 ≡ 125 → length stack < most_levels → Stands bytes (i + 1) (ended (trees.object no_members), frames_of stack)
object_ends bytes i stack stands short is room =
    let size = length_frames stack in
    reached_stands bytes (i + 1) (ended (trees.object no_members), frames_of stack)
    (takes bytes i (first_key, frames_of stack) (ended (trees.object no_members), frames_of stack) stands short (subst (λ b. step b first_key (frames_of stack) ≡ Some (ended (trees.object no_members), frames_of stack)) (sym is) refl) (omega (arith, room, size)))

-- what was made of none, where the closing byte stands in bytes that are the text
pub closed_arrives : (text seen : List ℕ) (i closing : ℕ) (stack : List Open) (none made : Tree) → seen ≡ text → get_or seen i 0 ≡ closing → made ≡ none
    → length stack < most_levels → (get_or text i 0 ≡ closing → Stands text (i + 1) (ended none, frames_of stack))
    → (i < i + 1) × Stands text (i + 1) (ended made, frames_of stack) × (0 + length stack ≤ most_levels)
closed_arrives text seen i closing stack none made is here same room stands = grind (arith, common_steps)

-- the same of white space in bytes that are a text
pub blank_passed_in : (bytes text : List ℕ) (i j : ℕ) (awaits : Awaits) (stack : List Open) → bytes ≡ text → Stands text i (mode_of awaits, frames_of stack) → i ≤ j → j ≤ length bytes → ((k : ℕ) → i ≤ k → k < j → IsTrue (is_blank (get_or bytes k 0)))
    → own_level (mode_of awaits) + length stack ≤ most_levels → Stands text j (mode_of awaits, frames_of stack)
blank_passed_in bytes whole i j awaits stack same stands low high blank room =
    let size : length bytes ≡ length whole = ap (λ (xs : List ℕ). length xs) same in
    blank_passed whole i j awaits stack stands low (omega (arith, high, size)) (subst (λ (xs : List ℕ). (k : ℕ) → i ≤ k → k < j → IsTrue (is_blank (get_or xs k 0))) same blank) room

-- the machine stands at its start
pub start_stands : (bytes : List ℕ) → Stands bytes 0 start
start_stands bytes = reached_stands bytes 0 start (refl, omega arith)
