-- Texts byte by byte: where the machine goes on, the grammar does.
use Rattle.std.proofs.Common.{◌≡◌, ℕ, suc, ◌+◌, ◌*◌, ◌<◌, ◌≤◌, ◌==◌, false, List, [], ◌∷◌, ◌++◌, ◌⊎◌, inl, inr, IsTrue, nat_lt, refl, arith, sym, subst, ◌∙◌, ap, eq-eqb}
use Rattle.std.{proofs.lemmas.Bool.Decides.nat_tests, specs.Char.{digit_value, encode_utf8}, proofs.lemmas.Grind.common_steps}
use Rattle.json_text.specs.declared.state.Within.TheVariants.{Plain, AfterU, AfterHex, AfterTwoHex, AfterThreeHex, AfterHigh, AfterHighBackslash, AfterHighU, AfterHighHex, AfterHighTwoHex, AfterHighThreeHex}
use Rattle.json_text.specs.{declared.state.Move.Move, Classes.{is_plain, is_hex, pair_of}, Grammar.{Spells, further}, Machine.{moves, begins_low, after_unit}}
use Rattle.json_text.specs.declared.state.Move.TheVariants as moving
use Rattle.json_text.proofs.{Completion.{EndsText, FirstUnit, LowUnit, BehindUnit}, Choices.{when, unless, along}}

-- the text goes on as the move says
abbrev pub LeadsText : Move → List ℕ → List ℕ → Type 0
LeadsText (moving.Goes place) inside spelled = EndsText place inside spelled
LeadsText (moving.Adds b) inside spelled = (left : List ℕ) × (spelled ≡ b ∷ left) × Spells inside left
LeadsText (moving.Spells code) inside spelled = (left : List ℕ) × (spelled ≡ encode_utf8 code ++ left) × Spells inside left
LeadsText moving.Ends inside spelled = ⊥
LeadsText moving.Refused inside spelled = ⊥

-- a hex digit more, of a first code unit and of a low surrogate
pub first_back : (count before b : ℕ) (inside spelled : List ℕ) → IsTrue (is_hex b) → FirstUnit count (before * 16 + digit_value b) inside spelled → FirstUnit (suc count) before (b ∷ inside) spelled
first_back count before b inside spelled h (hex, more, unit, e, size, digits, behind) = (b ∷ hex, more, unit, ap (λ bytes. b ∷ bytes) e, ap suc size, (h, digits), behind)

pub low_back : (count before high b : ℕ) (inside spelled : List ℕ) → IsTrue (is_hex b) → LowUnit count (before * 16 + digit_value b) high inside spelled → LowUnit (suc count) before high (b ∷ inside) spelled
low_back count before high b inside spelled h (hex, more, after, low, e, size, digits, is, spells, f) = (b ∷ hex, more, after, low, ap (λ bytes. b ∷ bytes) e, ap suc size, (h, digits), is, spells, f)

pub first_forth : (count before b : ℕ) (inside spelled : List ℕ) → FirstUnit (suc count) before (b ∷ inside) spelled → IsTrue (is_hex b) × FirstUnit count (before * 16 + digit_value b) inside spelled
first_forth count before b inside spelled ([], more, unit, e, size, digits, behind) = absurd (omega (arith, size))
first_forth count before b inside spelled (h ∷ hex, more, unit, e, size, digits, behind) = grind (arith, common_steps)

pub low_forth : (count before high b : ℕ) (inside spelled : List ℕ) → LowUnit (suc count) before high (b ∷ inside) spelled → IsTrue (is_hex b) × LowUnit count (before * 16 + digit_value b) high inside spelled
low_forth count before high b inside spelled ([], more, after, low, e, size, digits, is, spells, f) = absurd (omega (arith, size))
low_forth count before high b inside spelled (h ∷ hex, more, after, low, e, size, digits, is, spells, f) = grind (arith, common_steps)

-- within the escape of a low surrogate, where the grammar goes on the machine does
pub high_forth : (high b : ℕ) (inside spelled : List ℕ) → EndsText (AfterHigh high) (b ∷ inside) spelled → LeadsText (moves b (AfterHigh high)) inside spelled
high_forth high b inside spelled (tail, e, low) = along (λ c rest. LeadsText (moves c (AfterHigh high)) rest spelled) e (tail, refl, low)

pub high_backslash_forth : (high b : ℕ) (inside spelled : List ℕ) → EndsText (AfterHighBackslash high) (b ∷ inside) spelled → LeadsText (moves b (AfterHighBackslash high)) inside spelled
high_backslash_forth high b inside spelled (tail, e, low) = along (λ c rest. LeadsText (moves c (AfterHighBackslash high)) rest spelled) e low

pub high_two_forth : (high two b : ℕ) (inside spelled : List ℕ) → EndsText (AfterHighTwoHex high two) (b ∷ inside) spelled → LeadsText (moves b (AfterHighTwoHex high two)) inside spelled
high_two_forth high two b inside spelled h =
    let (is, low) = low_forth 1 two high b inside spelled h in
    when (λ move. LeadsText move inside spelled) (is_hex b) _ _ is low

pub hex_two_forth : (two b : ℕ) (inside spelled : List ℕ) → EndsText (AfterTwoHex two) (b ∷ inside) spelled → LeadsText (moves b (AfterTwoHex two)) inside spelled
hex_two_forth two b inside spelled h =
    let (is, unit) = first_forth 1 two b inside spelled h in
    when (λ move. LeadsText move inside spelled) (is_hex b) _ _ is unit

pub hex_none_forth : (b : ℕ) (inside spelled : List ℕ) → EndsText AfterU (b ∷ inside) spelled → LeadsText (moves b AfterU) inside spelled
hex_none_forth b inside spelled h =
    let (is, unit) = first_forth 3 0 b inside spelled h in
    when (λ move. LeadsText move inside spelled) (is_hex b) _ _ is unit

low_three : (high three b : ℕ) (inside spelled : List ℕ) → LowUnit 0 (three * 16 + digit_value b) high inside spelled → LeadsText (moving.Spells (pair_of high (three * 16 + digit_value b))) inside spelled
low_three high three b inside spelled x5 = grind (arith, common_steps)

pub high_three_forth : (high three b : ℕ) (inside spelled : List ℕ) → EndsText (AfterHighThreeHex high three) (b ∷ inside) spelled → LeadsText (moves b (AfterHighThreeHex high three)) inside spelled
high_three_forth high three b inside spelled h =
    let (is, low) = low_forth 0 three high b inside spelled h in
    when (λ move. LeadsText move inside spelled) (is_hex b) _ _ is (low_three high three b inside spelled low)

below : (n m : ℕ) → IsTrue (nat_lt n m) → n < m
below n m h = grind (arith, nat_tests)

pub hex_range : (b : ℕ) → IsTrue (is_hex b) → digit_value b < 16
hex_range b h = below (digit_value b) 16 h

-- the first hex digit of a low surrogate is d, and the first two are dc to df
low_first : (n high : ℕ) (inside spelled : List ℕ) → LowUnit 3 n high inside spelled → n ≡ 13
low_first n high inside spelled ([], more, after, low, e, size, digits, is, spells, f) = absurd (omega (arith, size))
low_first n high inside spelled (x ∷ [], more, after, low, e, size, digits, is, spells, f) = absurd (omega (arith, size))
low_first n high inside spelled (x ∷ y ∷ [], more, after, low, e, size, digits, is, spells, f) = absurd (omega (arith, size))
low_first n high inside spelled (x ∷ y ∷ z ∷ [], more, after, low, e, size, (hx, (hy, (hz, same))), is, spells, f) = grind (arith, common_steps)
low_first n high inside spelled (x ∷ y ∷ z ∷ w ∷ hex, more, after, low, e, size, digits, is, spells, f) = absurd (omega (arith, size))

begins_range : (n : ℕ) → (0xdc ≤ n) × (n < 0xe0) → IsTrue (begins_low n)
begins_range n h = grind (arith, nat_tests)

begins_other : (n : ℕ) → (n < 0xdc) ⊎ (0xe0 ≤ n) → begins_low n ≡ false
begins_other n h = grind (arith, nat_tests)

low_second : (n high : ℕ) (inside spelled : List ℕ) → LowUnit 2 n high inside spelled → (0xdc ≤ n) × (n < 0xe0)
low_second n high inside spelled ([], more, after, low, e, size, digits, is, spells, f) = absurd (omega (arith, size))
low_second n high inside spelled (x ∷ [], more, after, low, e, size, digits, is, spells, f) = absurd (omega (arith, size))
low_second n high inside spelled (x ∷ y ∷ [], more, after, low, e, size, (hx, (hy, same)), is, spells, f) = grind (arith, common_steps)
low_second n high inside spelled (x ∷ y ∷ z ∷ hex, more, after, low, e, size, digits, is, spells, f) = absurd (omega (arith, size))

first_second : (n : ℕ) (inside spelled : List ℕ) → FirstUnit 2 n inside spelled → (n < 0xdc) ⊎ (0xe0 ≤ n)
first_second n inside spelled ([], more, unit, e, size, digits, behind) = absurd (omega (arith, size))
first_second n inside spelled (x ∷ [], more, unit, e, size, digits, behind) = absurd (omega (arith, size))
first_second n inside spelled (x ∷ y ∷ [], more, unit, e, size, (hx, (hy, same)), behind) = grind (arith, common_steps)
first_second n inside spelled (x ∷ y ∷ z ∷ hex, more, unit, e, size, digits, behind) = absurd (omega (arith, size))

pub hex_one_forth : (one b : ℕ) (inside spelled : List ℕ) → EndsText (AfterHex one) (b ∷ inside) spelled → LeadsText (moves b (AfterHex one)) inside spelled
hex_one_forth one b inside spelled h =
    let (is, unit) = first_forth 2 one b inside spelled h in
    let n = one * 16 + digit_value b in
    when (λ move. LeadsText move inside spelled) (is_hex b) _ _ is
    (unless (λ move. LeadsText move inside spelled) (begins_low n) _ _ (begins_other n (first_second n inside spelled unit)) unit)

pub high_hex_forth : (high b : ℕ) (inside spelled : List ℕ) → EndsText (AfterHighHex high) (b ∷ inside) spelled → LeadsText (moves b (AfterHighHex high)) inside spelled
high_hex_forth high b inside spelled h =
    let (is, low) = low_forth 2 0xd high b inside spelled h in
    let n = 0xd * 16 + digit_value b in
    when (λ move. LeadsText move inside spelled) (is_hex b) _ _ is
    (when (λ move. LeadsText move inside spelled) (begins_low n) _ _ (begins_range n (low_second n high inside spelled low)) low)

pub high_u_forth : (high b : ℕ) (inside spelled : List ℕ) → EndsText (AfterHighU high) (b ∷ inside) spelled → LeadsText (moves b (AfterHighU high)) inside spelled
high_u_forth high b inside spelled h =
    let (is, low) = low_forth 3 0 high b inside spelled h in
    let n = 0 * 16 + digit_value b in
    let same : n ≡ 13 = low_first n high inside spelled low in
    when (λ move. LeadsText move inside spelled) (is_hex b) _ _ is
    (when (λ move. LeadsText move inside spelled) (n == 13) _ _ (eq-eqb n 13 same) (subst (λ m. LowUnit 3 m high inside spelled) same low))

-- a whole code unit, and what the machine makes of it
unit_done : (unit : ℕ) (inside spelled : List ℕ) → BehindUnit unit inside spelled → LeadsText (after_unit unit) inside spelled
unit_done unit inside spelled h = grind (arith, common_steps)

unit_whole : (n : ℕ) (inside spelled : List ℕ) → FirstUnit 0 n inside spelled → BehindUnit n inside spelled
unit_whole n inside spelled x3 = grind (arith, common_steps)

pub hex_three_forth : (three b : ℕ) (inside spelled : List ℕ) → EndsText (AfterThreeHex three) (b ∷ inside) spelled → LeadsText (moves b (AfterThreeHex three)) inside spelled
hex_three_forth three b inside spelled h =
    let (is, unit) = first_forth 0 three b inside spelled h in
    let n = three * 16 + digit_value b in
    when (λ move. LeadsText move inside spelled) (is_hex b) _ _ is (unit_done n inside spelled (unit_whole n inside spelled unit))

plain_moves : (b : ℕ) → IsTrue (is_plain b) → moves b Plain ≡ moving.Adds b
plain_moves b h = grind (arith, nat_tests)

escape_begins : (b : ℕ) (inside spelled rest : List ℕ) → b ∷ inside ≡ 92 ∷ rest → Spells (b ∷ inside) spelled → LeadsText (moves b Plain) inside spelled
escape_begins b inside spelled rest e spells = grind (arith, common_steps)

plain_adds : (b : ℕ) (inside left spelled : List ℕ) → IsTrue (is_plain b) → spelled ≡ b ∷ left → Spells inside left → LeadsText (moves b Plain) inside spelled
plain_adds b inside left spelled h e spells = subst (λ move. LeadsText move inside spelled) (sym (plain_moves b h)) (left, e, spells)

-- a text goes on: a byte that stands for itself, or an escape
pub plain_forth : (b : ℕ) (inside spelled : List ℕ) → Spells (b ∷ inside) spelled → LeadsText (moves b Plain) inside spelled
plain_forth b inside spelled (further {one = one} {rest = rest} {more = more} {after = after} character spells e f) = let whole_text : Spells (b ∷ inside) spelled = further character spells e f in elim character [
  | inl (x, is, same, h) ↦
      along (λ c bytes. LeadsText (moves c Plain) bytes spelled) (e ∙ ap (λ front. front ++ more) is) (plain_adds x more after spelled h (f ∙ ap (λ front. front ++ after) same) spells)
  | inr (inl (letter, x, is, same, h)) ↦ escape_begins b inside spelled (letter ∷ more) (e ∙ ap (λ front. front ++ more) is) whole_text
  | inr (inr (inl (unit, (p, q, r, s, is, h1, h2, h3, h4, u), whole, same))) ↦ escape_begins b inside spelled (117 ∷ p ∷ q ∷ r ∷ s ∷ more) (e ∙ ap (λ front. front ++ more) is) whole_text
  | inr (inr (inr (front, back, high, low, is, (p, q, r, s, is', h1, h2, h3, h4, u), second, hs, ls, same))) ↦
      escape_begins b inside spelled (117 ∷ p ∷ q ∷ r ∷ s ∷ (back ++ more)) (e ∙ ap (λ bytes. bytes ++ more) (is ∙ ap (λ bytes. bytes ++ back) is')) whole_text
]
