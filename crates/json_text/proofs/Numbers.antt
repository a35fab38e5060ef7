-- Numbers byte by byte: the machine goes on exactly where the grammar does.
use Rattle.std.proofs.lemmas.Grind.{common_steps}
use Rattle.std.proofs.Common.{◌≡◌, ℕ, ◌==◌, true, false, cond, List, [], ◌∷◌, ◌++◌, inl, inr, IsTrue, Option, Some, None, refl, arith, ap}
use Rattle.json_text.{specs.declared.state.Digits.Digits, specs.Machine.{digits_after, may_end}, proofs.Completion.EndsNumber}
use Rattle.json_text.specs.declared.state.Digits.TheVariants.{AfterMinus, AfterZero, InWhole, AfterPoint, InFraction, AfterMark, AfterSign, InExponent}
use Rattle.json_text.specs.{Classes.{is_digit, is_leading_digit, is_exponent_mark}, Grammar.{IsWhole, IsFraction, IsSigned, IsExponent}}
use Rattle.json_text.proofs.Choices.{when, unless, along, chosen, equal}

-- the number goes on to a place that the tail ends
abbrev pub LeadsOn : Option Digits → List ℕ → Type 0
LeadsOn None tail = ⊥
LeadsOn (Some place) tail = EndsNumber place tail

on_mark : (b : ℕ) (tail : List ℕ) → IsTrue (is_exponent_mark b) → IsSigned tail → LeadsOn (digits_after b InFraction) tail
on_mark b tail m s = grind (arith, common_steps)

-- behind the whole part or its only 0
on_rest : (b : ℕ) (tail fraction exponent : List ℕ) → b ∷ tail ≡ fraction ++ exponent → IsFraction fraction → IsExponent exponent → LeadsOn (digits_after b AfterZero) tail
on_rest b tail fraction exponent e f x = grind (arith, common_steps)

-- no digit: what comes behind a whole part
whole_end : (b : ℕ) (tail fraction exponent : List ℕ) → is_digit b ≡ false → LeadsOn (digits_after b AfterZero) tail → LeadsOn (digits_after b InWhole) tail
whole_end b tail fraction exponent other l = unless (λ next. LeadsOn next tail) (is_digit b) _ _ other l

rest_no_digit : (b : ℕ) (tail fraction exponent : List ℕ) → b ∷ tail ≡ fraction ++ exponent → IsFraction fraction → IsExponent exponent → is_digit b ≡ false
rest_no_digit b tail fraction exponent e f x = grind (arith, common_steps)

pub first_whole : (b : ℕ) (tail whole fraction exponent : List ℕ) → b ∷ tail ≡ whole ++ (fraction ++ exponent) → IsWhole whole → IsFraction fraction → IsExponent exponent → LeadsOn (digits_after b AfterMinus) tail
first_whole b tail whole fraction exponent e w f x = grind (arith, common_steps)

-- where the grammar goes on, the machine does
pub digits_forth : (place : Digits) (b : ℕ) (tail : List ℕ) → EndsNumber place (b ∷ tail) → LeadsOn (digits_after b place) tail
digits_forth AfterMinus b tail (whole, fraction, exponent, e, w, f, x) = first_whole b tail whole fraction exponent e w f x
digits_forth AfterZero b tail (fraction, exponent, e, f, x) = on_rest b tail fraction exponent e f x
digits_forth InWhole b tail ([], fraction, exponent, e, each, f, x) = whole_end b tail fraction exponent (rest_no_digit b tail fraction exponent e f x) (on_rest b tail fraction exponent e f x)
digits_forth InWhole b tail (d ∷ more, fraction, exponent, e, each, f, x) = grind (arith, common_steps)
digits_forth AfterPoint b tail ([], exponent, e, each, x) = absurd each
digits_forth AfterPoint b tail (d ∷ more, exponent, e, each, x) = grind (arith, common_steps)
digits_forth InFraction b tail ([], [], e, each, x) = absurd (cc e)
digits_forth InFraction b tail ([], m ∷ exponent, e, each, x) = along (λ c rest. LeadsOn (digits_after c InFraction) rest) e (on_mark m exponent x.0 x.1)
digits_forth InFraction b tail (d ∷ more, exponent, e, each, x) = grind (arith, common_steps)
digits_forth AfterMark b tail h = grind (arith, common_steps)
digits_forth AfterSign b tail h = when (λ next. LeadsOn next tail) (is_digit b) _ _ h.0 h.1
digits_forth InExponent b tail h = when (λ next. LeadsOn next tail) (is_digit b) _ _ h.0 h.1

-- where the grammar may end, the machine may
pub digits_end : (place : Digits) → EndsNumber place [] → may_end place ≡ true
digits_end place x1 = grind (arith, common_steps)

-- where the machine may end, the grammar may
pub ends_here : (place : Digits) → may_end place ≡ true → EndsNumber place []
ends_here AfterMinus h = absurd (cc h)
ends_here AfterZero h = ([], [], refl, tt, tt)
ends_here InWhole h = ([], [], [], refl, tt, tt, tt)
ends_here AfterPoint h = absurd (cc h)
ends_here InFraction h = ([], [], refl, tt, tt)
ends_here AfterMark h = absurd (cc h)
ends_here AfterSign h = absurd (cc h)
ends_here InExponent h = tt

-- a mark or nothing behind digits
mark_back : (b : ℕ) (tail : List ℕ) → LeadsOn (cond (is_exponent_mark b) (Some AfterMark) None) tail → IsExponent (b ∷ tail)
mark_back b tail l = elim (chosen (λ next. LeadsOn next tail) (is_exponent_mark b) _ _ l) [ inl (m, s) ↦ (m, s) | inr (m, none) ↦ absurd none ]

rest_back : (b : ℕ) (tail : List ℕ) → LeadsOn (digits_after b AfterZero) tail → EndsNumber AfterZero (b ∷ tail)
rest_back b tail l = elim (chosen (λ next. LeadsOn next tail) (b == 46) _ _ l) [
  | inl (is, (more, exponent, e, each, x)) ↦ (b ∷ more, exponent, ap (λ bytes. b ∷ bytes) e, (equal b 46 is, each), x)
  | inr (is, further) ↦ ([], b ∷ tail, refl, tt, mark_back b tail further)
]

-- where the machine goes on, the grammar does
pub digits_back : (place : Digits) (b : ℕ) (tail : List ℕ) → LeadsOn (digits_after b place) tail → EndsNumber place (b ∷ tail)
digits_back AfterMinus b tail l = elim (chosen (λ next. LeadsOn next tail) (b == 48) _ _ l) [
  | inl (is, (fraction, exponent, e, f, x)) ↦ (b ∷ [], fraction, exponent, ap (λ bytes. b ∷ bytes) e, inl (equal b 48 is, refl), f, x)
  | inr (is, further) ↦ elim (chosen (λ next. LeadsOn next tail) (is_leading_digit b) _ _ further) [
    | inl (d, (more, fraction, exponent, e, each, f, x)) ↦ (b ∷ more, fraction, exponent, ap (λ bytes. b ∷ bytes) e, inr (d, each), f, x)
    | inr (d, none) ↦ absurd none
  ]
]
digits_back AfterZero b tail l = rest_back b tail l
digits_back InWhole b tail l = elim (chosen (λ next. LeadsOn next tail) (is_digit b) _ _ l) [
  | inl (d, (more, fraction, exponent, e, each, f, x)) ↦ (b ∷ more, fraction, exponent, ap (λ bytes. b ∷ bytes) e, (d, each), f, x)
  | inr (d, further) ↦ let (fraction, exponent, e, f, x) = rest_back b tail further in ([], fraction, exponent, e, tt, f, x)
]
digits_back AfterPoint b tail l = elim (chosen (λ next. LeadsOn next tail) (is_digit b) _ _ l) [
  | inl (d, (more, exponent, e, each, x)) ↦ (b ∷ more, exponent, ap (λ bytes. b ∷ bytes) e, (d, each), x)
  | inr (d, none) ↦ absurd none
]
digits_back InFraction b tail l = elim (chosen (λ next. LeadsOn next tail) (is_digit b) _ _ l) [
  | inl (d, (more, exponent, e, each, x)) ↦ (b ∷ more, exponent, ap (λ bytes. b ∷ bytes) e, (d, each), x)
  | inr (d, further) ↦ ([], b ∷ tail, refl, tt, mark_back b tail further)
]
digits_back AfterMark b tail l = grind (arith, common_steps)
digits_back AfterSign b tail l = elim (chosen (λ next. LeadsOn next tail) (is_digit b) _ _ l) [ inl (d, each) ↦ (d, each) | inr (d, none) ↦ absurd none ]
digits_back InExponent b tail l = elim (chosen (λ next. LeadsOn next tail) (is_digit b) _ _ l) [ inl (d, each) ↦ (d, each) | inr (d, none) ↦ absurd none ]
