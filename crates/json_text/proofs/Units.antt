-- Texts byte by byte, at the place after a backslash; and where the machine goes on, the grammar does.
use Rattle.std.proofs.Common.{◌≡◌, ℕ, append_assoc, ◌+◌, ◌*◌, ◌<◌, ◌≤◌, ◌==◌, Bool, false, not, List, [], ◌∷◌, ◌++◌, ◌⊎◌, inl, inr, length, IsTrue, nat_le, Option, Some, None, refl, arith, sym, subst, ◌∙◌, ap}
use Rattle.std.{proofs.lemmas.Bool.Decides.nat_tests, specs.Char.{digit_value, encode_utf8}, proofs.lemmas.Grind.common_steps}
use Rattle.json_text.specs.{declared.state.Within.Within, Grammar.{Spells, further, IsUnit}, Machine.{moves, after_unit, escape_moves, IsPlace}}
use Rattle.json_text.specs.declared.state.Within.TheVariants.{Plain, AfterBackslash, AfterU, AfterHex, AfterTwoHex, AfterThreeHex, AfterHigh, AfterHighBackslash, AfterHighU, AfterHighHex, AfterHighTwoHex, AfterHighThreeHex}
use Rattle.json_text.specs.Classes.{is_plain, short_escape, is_hex, unit_of, is_low_surrogate, is_surrogate, pair_of}
use Rattle.json_text.proofs.{Completion.{EndsText, FirstUnit, Hex}, Escapes.{LeadsText, first_back, low_back, hex_range}}
use Rattle.json_text.proofs.Choices.{along, head_same, tail_same, chosen, equal}

joined : {b c : ℕ} {rest other : List ℕ} → b ≡ c → rest ≡ other → b ∷ rest ≡ c ∷ other
joined e f = cc

not_true : (t : Bool) → IsTrue (not t) → t ≡ false
not_true t h = grind (arith, common_steps)

true_not : (t : Bool) → t ≡ false → IsTrue (not t)
true_not t h = grind (arith, common_steps)

-- the four digits of a code unit, as the grammar and as the machine count them
unit_hex : (a b c d unit : ℕ) → unit ≡ unit_of a b c d → (((0 * 16 + digit_value a) * 16 + digit_value b) * 16 + digit_value c) * 16 + digit_value d ≡ unit
unit_hex a b c d unit e = omega (arith, e)

hex_unit : (a b c d unit : ℕ) → (((0 * 16 + digit_value a) * 16 + digit_value b) * 16 + digit_value c) * 16 + digit_value d ≡ unit → unit ≡ unit_of a b c d
hex_unit a b c d unit e = omega (arith, e)

-- a backslash and a letter go on
short_forth : (letter meant : ℕ) (more after spelled : List ℕ) → short_escape letter ≡ Some meant → spelled ≡ meant ∷ after → Spells more after
    → LeadsText (moves letter AfterBackslash) more spelled
short_forth letter meant more after spelled h f spells = grind (arith, common_steps)

-- behind a backslash, where the grammar goes on the machine does
pub backslash_forth : (b : ℕ) (inside spelled : List ℕ) → EndsText AfterBackslash (b ∷ inside) spelled → LeadsText (moves b AfterBackslash) inside spelled
backslash_forth b inside spelled (further {one = one} {rest = rest} {more = more} {after = after} character spells e f) = elim character [
  | inl (x, is, same, h) ↦
      let first : 92 ≡ x = head_same (e ∙ ap (λ front. front ++ more) is) in
      let plain : IsTrue (is_plain 92) = subst (λ n. IsTrue (is_plain n)) (sym first) h in
      absurd (cc plain)
  | inr (inl (letter, meant, is, same, h)) ↦
      along (λ c bytes. LeadsText (moves c AfterBackslash) bytes spelled) (tail_same (e ∙ ap (λ front. front ++ more) is))
      (short_forth letter meant more after spelled h (f ∙ ap (λ front. front ++ after) same) spells)
  | inr (inr (inl (unit, (p, q, r, s, is, hp, hq, hr, hs, u), whole, same))) ↦
      along (λ c bytes. LeadsText (moves c AfterBackslash) bytes spelled) (tail_same (e ∙ ap (λ front. front ++ more) is))
      (p ∷ q ∷ r ∷ s ∷ [], more, unit, refl, refl, (hp, (hq, (hr, (hs, unit_hex p q r s unit u)))), inl (not_true (is_surrogate unit) whole, (after, spells, f ∙ ap (λ front. front ++ after) same)))
  | inr (inr (inr (front, back, high, low, is, (p, q, r, s, is', hp, hq, hr, hs, u), (p', q', r', s', is'', hp', hq', hr', hs', u'), hh, hl, same))) ↦
      along (λ c bytes. LeadsText (moves c AfterBackslash) bytes spelled) (tail_same (e ∙ ap (λ bytes. bytes ++ more) (is ∙ ap (λ bytes. bytes ++ back) is' ∙ ap (λ bytes. 92 ∷ 117 ∷ p ∷ q ∷ r ∷ s ∷ bytes) is''))) (
        p ∷ q ∷ r ∷ s ∷ [],
        92 ∷ 117 ∷ p' ∷ q' ∷ r' ∷ s' ∷ more,
        high,
        refl,
        refl,
        (hp, (hq, (hr, (hs, unit_hex p q r s high u)))),
        inr (hh, (p' ∷ q' ∷ r' ∷ s' ∷ more, refl, (p' ∷ q' ∷ r' ∷ s' ∷ [], more, after, low, refl, refl, (hp', (hq', (hr', (hs', unit_hex p' q' r' s' low u')))), hl, spells, f ∙ ap (λ front. front ++ after) same))),
      )
]

-- four hex digits that make this number a code unit
four_units : (hex : List ℕ) (unit : ℕ) → length hex ≡ 4 → Hex 0 hex unit → IsUnit (92 ∷ 117 ∷ hex) unit
four_units [] unit size digits = absurd (omega (arith, size))
four_units (a ∷ []) unit size digits = absurd (omega (arith, size))
four_units (a ∷ b ∷ []) unit size digits = absurd (omega (arith, size))
four_units (a ∷ b ∷ c ∷ []) unit size digits = absurd (omega (arith, size))
four_units (a ∷ b ∷ c ∷ d ∷ []) unit size (ha, (hb, (hc, (hd, e)))) = (a, b, c, d, refl, ha, hb, hc, hd, hex_unit a b c d unit e)
four_units (a ∷ b ∷ c ∷ d ∷ x ∷ hex) unit size digits = absurd (omega (arith, size))

-- a code unit, and its low surrogate where it is a high one
unit_back : (inside spelled : List ℕ) → FirstUnit 4 0 inside spelled → Spells (92 ∷ 117 ∷ inside) spelled
unit_back inside spelled (hex, more, unit, e, size, digits, behind) = elim behind [
  | inl (whole, (after, spells, f)) ↦
      further {one = 92 ∷ 117 ∷ hex} {rest = encode_utf8 unit} {more = more} {after = after}
      (inr (inr (inl (unit, four_units hex unit size digits, true_not (is_surrogate unit) whole, refl)))) spells (ap (λ bytes. 92 ∷ 117 ∷ bytes) e) f
  | inr (hh, (tail, e', (hex', more', after, low, e'', size', digits', hl, spells, f))) ↦
      further {one = 92 ∷ 117 ∷ (hex ++ 92 ∷ 117 ∷ hex')} {rest = encode_utf8 (pair_of unit low)} {more = more'} {after = after}
      (inr (inr (inr (92 ∷ 117 ∷ hex, 92 ∷ 117 ∷ hex', unit, low, refl, four_units hex unit size digits, four_units hex' low size' digits', hh, hl, refl)))) spells
      (ap (λ bytes. 92 ∷ 117 ∷ bytes) (e ∙ ap (λ bytes. hex ++ bytes) (e' ∙ ap (λ bytes. 92 ∷ 117 ∷ bytes) e'') ∙ sym (simp append_assoc))) f
]

escape_back : (b : ℕ) (inside spelled : List ℕ) (meant : Option ℕ) → short_escape b ≡ meant → LeadsText (escape_moves meant) inside spelled → Spells (92 ∷ b ∷ inside) spelled
escape_back b inside spelled None e l = absurd l
escape_back b inside spelled (Some m) e (left, f, spells) =
    further {one = 92 ∷ b ∷ []} {rest = m ∷ []} {more = inside} {after = left} (inr (inl (b, m, refl, refl, e))) spells refl f

backslash_back : (b : ℕ) (inside spelled : List ℕ) → LeadsText (moves b AfterBackslash) inside spelled → EndsText AfterBackslash (b ∷ inside) spelled
backslash_back b inside spelled l = grind (arith, common_steps, chosen, equal, unit_back, escape_back)

plain_test : (b : ℕ) → IsTrue (nat_le 32 b) → (b == 34) ≡ false → (b == 92) ≡ false → IsTrue (is_plain b)
plain_test b h g k = grind (arith, nat_tests)

plain_back : (b : ℕ) (inside spelled : List ℕ) → LeadsText (moves b Plain) inside spelled → EndsText Plain (b ∷ inside) spelled
plain_back b inside spelled l = elim (chosen (λ move. LeadsText move inside spelled) (b == 34) _ _ l) [
  | inl (is, none) ↦ absurd none
  | inr (quote, l1) ↦ elim (chosen (λ move. LeadsText move inside spelled) (b == 92) _ _ l1) [
    | inl (is, spells) ↦ subst (λ c. Spells (c ∷ inside) spelled) (sym (equal b 92 is)) spells
    | inr (backslash, l2) ↦ elim (chosen (λ move. LeadsText move inside spelled) (nat_le 32 b) _ _ l2) [
      | inl (high, (left, f, spells)) ↦ further {one = b ∷ []} {rest = b ∷ []} {more = inside} {after = left} (inl (b, refl, refl, plain_test b high quote backslash)) spells refl f
      | inr (high, none) ↦ absurd none
    ]
  ]
]

low_test : (n : ℕ) → 0xdc00 ≤ n → n < 0xe000 → IsTrue (is_low_surrogate n)
low_test n h g = grind (arith, nat_tests)

unit_ended : (n : ℕ) (inside spelled : List ℕ) → (n < 0xdc00) ⊎ (0xe000 ≤ n) → LeadsText (after_unit n) inside spelled → FirstUnit 0 n inside spelled
unit_ended n inside spelled range l = grind (arith, common_steps)

three_range : (three b : ℕ) → IsPlace (AfterThreeHex three) → digit_value b < 16 → (three * 16 + digit_value b < 0xdc00) ⊎ (0xe000 ≤ three * 16 + digit_value b)
three_range three b place h = elim place [ inl low ↦ inl (omega (arith, low, h)) | inr large ↦ inr (omega (arith, large.0, h)) ]

-- Where the machine goes on, the grammar does.
pub text_back : (place : Within) (b : ℕ) (inside spelled : List ℕ) → IsPlace place → LeadsText (moves b place) inside spelled → EndsText place (b ∷ inside) spelled
text_back Plain b inside spelled sound l = plain_back b inside spelled l
text_back AfterBackslash b inside spelled sound l = backslash_back b inside spelled l
text_back AfterU b inside spelled sound l = grind (arith, common_steps, chosen, first_back)
text_back (AfterHex one) b inside spelled sound l = grind (arith, common_steps, chosen, digit_value, first_back)
text_back (AfterTwoHex two) b inside spelled sound l = grind (arith, common_steps, chosen, first_back)
text_back (AfterThreeHex three) b inside spelled sound l = elim (chosen (λ move. LeadsText move inside spelled) (is_hex b) _ _ l) [
  | inl (h, on) ↦ first_back 0 three b inside spelled h (unit_ended (three * 16 + digit_value b) inside spelled (three_range three b sound (hex_range b h)) on)
  | inr (h, none) ↦ absurd none
]
text_back (AfterHigh high) b inside spelled sound l = grind (arith, common_steps)
text_back (AfterHighBackslash high) b inside spelled sound l = grind (arith, common_steps)
text_back (AfterHighU high) b inside spelled sound l = grind (arith, common_steps, chosen, digit_value, low_back, equal)
text_back (AfterHighHex high) b inside spelled sound l = grind (arith, common_steps, chosen, digit_value, low_back)
text_back (AfterHighTwoHex high two) b inside spelled sound l = grind (arith, common_steps, chosen, low_back)
text_back (AfterHighThreeHex high three) b inside spelled sound l = elim (chosen (λ move. LeadsText move inside spelled) (is_hex b) _ _ l) [
  | inl (h, (left, f, spells)) ↦
      let n = three * 16 + digit_value b in
      let small = hex_range b h in
      low_back 0 three high b inside spelled h
      ([], inside, left, n, refl, refl, refl, low_test n (omega (arith, sound.1, small)) (omega (arith, sound.2, small)), spells, f)
  | inr (h, none) ↦ absurd none
]
