-- What stands between quotes, in its state: the machine goes on exactly where the grammar does.
use Rattle.std.proofs.Common.{◌≡◌, ℕ, suc, ◌+◌, ◌*◌, arith, List, [], ◌∷◌, ◌++◌, ◌⊎◌, inl, inr, Option, Some, option_map, refl, sym, subst, ◌∙◌, ap, append-nil, nat_le}
use Rattle.std.{specs.Char.digit_value, proofs.lemmas.Grind.common_steps}
use Rattle.json_text.specs.{declared.state.Within.Within, declared.state.Move.Move, Classes.is_hex, Tree.Tree}
use Rattle.json_text.specs.declared.state.Within.TheVariants.{Plain, AfterBackslash, AfterU, AfterHex, AfterTwoHex, AfterThreeHex, AfterHigh, AfterHighBackslash, AfterHighU, AfterHighHex, AfterHighTwoHex, AfterHighThreeHex}
use Rattle.json_text.specs.declared.state.Move.TheVariants as moving
use Rattle.json_text.{specs.Grammar.{IsCharacter, Spells, nothing, further}, proofs.Completion.{EndsText, FirstUnit, LowUnit, Follows, Completes, Leads}}
use Rattle.json_text.specs.Machine.{Frame, Role, as_value, as_key, content, step, moves, moved, escape_moves, with_frames, move_by, with_hex, IsPlace}
use Rattle.json_text.proofs.Escapes.{LeadsText, plain_forth, hex_none_forth, hex_one_forth, hex_two_forth, hex_three_forth, high_forth, high_backslash_forth, high_u_forth, high_hex_forth, high_two_forth, high_three_forth}
use Rattle.json_text.proofs.{Units.{backslash_forth, text_back}, Choices.{along, chosen, equal}}

-- where the grammar goes on, the machine does
pub text_forth : (place : Within) (b : ℕ) (inside spelled : List ℕ) → EndsText place (b ∷ inside) spelled → LeadsText (moves b place) inside spelled
text_forth Plain b inside spelled h = plain_forth b inside spelled h
text_forth AfterBackslash b inside spelled h = backslash_forth b inside spelled h
text_forth AfterU b inside spelled h = hex_none_forth b inside spelled h
text_forth (AfterHex one) b inside spelled h = hex_one_forth one b inside spelled h
text_forth (AfterTwoHex two) b inside spelled h = hex_two_forth two b inside spelled h
text_forth (AfterThreeHex three) b inside spelled h = hex_three_forth three b inside spelled h
text_forth (AfterHigh high) b inside spelled h = high_forth high b inside spelled h
text_forth (AfterHighBackslash high) b inside spelled h = high_backslash_forth high b inside spelled h
text_forth (AfterHighU high) b inside spelled h = high_u_forth high b inside spelled h
text_forth (AfterHighHex high) b inside spelled h = high_hex_forth high b inside spelled h
text_forth (AfterHighTwoHex high two) b inside spelled h = high_two_forth high two b inside spelled h
text_forth (AfterHighThreeHex high three) b inside spelled h = high_three_forth high three b inside spelled h

-- a character has a byte
character_some : (one rest more : List ℕ) → IsCharacter one rest → [] ≡ one ++ more → ⊥
character_some one rest more x3 e = grind (arith, common_steps)

spells_nothing : (bytes spelled : List ℕ) → Spells bytes spelled → bytes ≡ [] → spelled ≡ []
spells_nothing bytes spelled nothing e = refl
spells_nothing bytes spelled (further {one = one} {rest = rest} {more = more} {after = after} character spells is f) e = absurd (character_some one rest more character (sym e ∙ is))

-- a backslash alone is no character
backslash_alone : (spelled : List ℕ) → Spells (92 ∷ []) spelled → ⊥
backslash_alone spelled (further {one = one} {rest = rest} {more = more} {after = after} character spells e f) = grind (arith, common_steps)

first_some : (count before : ℕ) (spelled : List ℕ) → FirstUnit (suc count) before [] spelled → ⊥
first_some count before spelled ([], more, unit, e, size, digits, behind) = absurd (omega (arith, size))
first_some count before spelled (x ∷ hex, more, unit, e, size, digits, behind) = cc e

low_some : (count before high : ℕ) (spelled : List ℕ) → LowUnit (suc count) before high [] spelled → ⊥
low_some count before high spelled ([], more, after, low, e, size, digits, is, spells, f) = absurd (omega (arith, size))
low_some count before high spelled (x ∷ hex, more, after, low, e, size, digits, is, spells, f) = cc e

-- nothing more stands before the closing quote
pub ends_plain : (place : Within) (spelled : List ℕ) → EndsText place [] spelled → (place ≡ Plain) × (spelled ≡ [])
ends_plain Plain spelled h = (refl, spells_nothing [] spelled h refl)
ends_plain AfterBackslash spelled h = absurd (backslash_alone spelled h)
ends_plain AfterU spelled h = absurd (first_some 3 0 spelled h)
ends_plain (AfterHex one) spelled h = absurd (first_some 2 one spelled h)
ends_plain (AfterTwoHex two) spelled h = absurd (first_some 1 two spelled h)
ends_plain (AfterThreeHex three) spelled h = absurd (first_some 0 three spelled h)
ends_plain (AfterHigh high) spelled (tail, e, low) = absurd (cc e)
ends_plain (AfterHighBackslash high) spelled (tail, e, low) = absurd (cc e)
ends_plain (AfterHighU high) spelled h = absurd (low_some 3 0 high spelled h)
ends_plain (AfterHighHex high) spelled h = absurd (low_some 2 13 high spelled h)
ends_plain (AfterHighTwoHex high two) spelled h = absurd (low_some 1 two high spelled h)
ends_plain (AfterHighThreeHex high three) spelled h = absurd (low_some 0 three high spelled h)

-- what a move makes of the text that is open, and what it was made of
moved_forth : (move : Move) (role : Role) (bytes inside more spelled : List ℕ) (frames : List Frame) (whole : Tree) → LeadsText move inside spelled → Follows role frames (bytes ++ spelled) more whole
    → Leads (option_map (with_frames frames) (moved role bytes move)) (inside ++ 34 ∷ more) whole
moved_forth move role bytes inside more spelled frames whole h k = grind (arith, common_steps)

text_ends : (role : Role) (place : Within) (b : ℕ) (bytes rest more spelled : List ℕ) (frames : List Frame) (whole : Tree) → b ∷ rest ≡ 34 ∷ more → place ≡ Plain → spelled ≡ []
    → Follows role frames (bytes ++ spelled) more whole → Leads (step b (content role place bytes) frames) rest whole
text_ends role place b bytes rest more spelled frames whole e is none k = grind (arith, common_steps)

pub content_forth : (role : Role) (place : Within) (b : ℕ) (bytes rest : List ℕ) (frames : List Frame) (whole : Tree) → Completes (content role place bytes) frames (b ∷ rest) whole
    → Leads (step b (content role place bytes) frames) rest whole
content_forth role place b bytes rest frames whole ([], more, spelled, e, ends, k) = grind (arith, common_steps, ends_plain, text_ends)
content_forth role place b bytes rest frames whole (x ∷ inside, more, spelled, e, ends, k) =
    along (λ c left. Leads (step c (content role place bytes) frames) left whole) e
    (moved_forth (moves x place) role bytes inside more spelled frames whole (text_forth place x inside spelled ends) k)

-- where a move comes from
abbrev pub Moving : Move → Role → List ℕ → List Frame → List ℕ → Tree → Type 0
Moving move role bytes frames rest whole = (inside more spelled : List ℕ) × (rest ≡ inside ++ 34 ∷ more) × LeadsText move inside spelled × Follows role frames (bytes ++ spelled) more whole

moved_back : (move : Move) (role : Role) (bytes rest : List ℕ) (frames : List Frame) (whole : Tree) → Leads (option_map (with_frames frames) (moved role bytes move)) rest whole
    → (move ≡ moving.Ends) ⊎ Moving move role bytes frames rest whole
moved_back move role bytes rest frames whole x6 = grind (arith, common_steps)

-- only a quote ends a text
ends_escape : (meant : Option ℕ) → escape_moves meant ≡ moving.Ends → ⊥
ends_escape meant e = grind (arith, common_steps)

ends_hex : (n : ℕ) (place : Within) → with_hex n place ≡ moving.Ends → ⊥
ends_hex n place e = grind (arith, common_steps)

ends_digit : (b before : ℕ) (place : Within) → move_by b place (Some before) ≡ moving.Ends → ⊥
ends_digit b before place e = elim (chosen (λ (move : Move). move ≡ moving.Ends) (is_hex b) _ _ e) [ inl (h, on) ↦ ends_hex (before * 16 + digit_value b) place on | inr (h, other) ↦ cc other ]

ends_here : (place : Within) (b : ℕ) → moves b place ≡ moving.Ends → (place ≡ Plain) × (b ≡ 34)
ends_here place b e = grind (arith, common_steps, chosen, equal, nat_le, ends_escape, ends_digit)

quote_back : (role : Role) (bytes rest : List ℕ) (frames : List Frame) (whole : Tree) → Leads (step 34 (content role Plain bytes) frames) rest whole → Completes (content role Plain bytes) frames (34 ∷ rest) whole
quote_back as_value bytes rest frames whole k = ([], rest, [], refl, nothing, subst (λ all. Follows as_value frames all rest whole) (sym (append-nil bytes)) k)
quote_back (as_key listed) bytes rest frames whole k = ([], rest, [], refl, nothing, subst (λ all. Follows (as_key listed) frames all rest whole) (sym (append-nil bytes)) k)

text_ended_back : (role : Role) (place : Within) (b : ℕ) (bytes rest : List ℕ) (frames : List Frame) (whole : Tree) → place ≡ Plain → b ≡ 34 → Leads (step b (content role place bytes) frames) rest whole
    → Completes (content role place bytes) frames (b ∷ rest) whole
text_ended_back role place b bytes rest frames whole plain is l = grind (arith, common_steps, quote_back)

pub content_back : (role : Role) (place : Within) (b : ℕ) (bytes rest : List ℕ) (frames : List Frame) (whole : Tree) → IsPlace place → Leads (step b (content role place bytes) frames) rest whole
    → Completes (content role place bytes) frames (b ∷ rest) whole
content_back role place b bytes rest frames whole sound l = elim (moved_back (moves b place) role bytes rest frames whole l) [
  | inl ends ↦ let (plain, is) = ends_here place b ends in text_ended_back role place b bytes rest frames whole plain is l
  | inr (inside, more, spelled, e, h, k) ↦ (b ∷ inside, more, spelled, ap (λ xs. b ∷ xs) e, text_back place b inside spelled sound h, k)
]
