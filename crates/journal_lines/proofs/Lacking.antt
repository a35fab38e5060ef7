-- Private: no public contract cites this. Bytes that lack one byte, and where bytes are parted at it.
use Rattle.std.proofs.Common.{◌≡◌, ◌≢◌, ℕ, zero, suc, ◌^◌, ◌+◌, ◌<◌, ◌≤◌, List, [], ◌∷◌, ◌++◌, length, get_or, take, drop, All, Bool, true, false, cond, ltb, decimal, refl, sym, ap, ◌∙◌, arith}
use Rattle.std.{specs.Str.Parse.AllDigits, proofs.lemmas.Bool.{false≢true, le-ltb}, proofs.lemmas.Fmt.decimal_is_IsNumeral_wide}
use Rattle.std.proofs.lemmas.Str.Parse.{digit_from_value}
use Rattle.line_text.specs.Names.{MayStand}

abbrev pub Lacks : ℕ → List ℕ → Type 0
Lacks c [] = Unit {0}
Lacks c (b ∷ bytes) = (b ≡ c → ⊥) × Lacks c bytes

pub lacks_both : (c : ℕ) (front back : List ℕ) → Lacks c front → Lacks c back → Lacks c (front ++ back)
lacks_both c [] back one two = two
lacks_both c (b ∷ front) back one two = (one.0, lacks_both c front back one.1 two)

pub lacks_all : (c : ℕ) (bytes : List ℕ) → All (λ b. b ≢ c) bytes → Lacks c bytes
lacks_all c [] each = tt
lacks_all c (b ∷ bytes) each = (each 0 0 (omega arith), lacks_all c bytes (λ k d below. each (suc k) d (omega (arith, below))))

pub lacks_standing : (c : ℕ) (bytes : List ℕ) → c ≤ 32 → All MayStand bytes → Lacks c bytes
lacks_standing c [] low each = tt
lacks_standing c (b ∷ bytes) low each =
    let may : MayStand b = each 0 0 (omega arith) in
    (λ same. omega (arith, may.0, low, same), lacks_standing c bytes low (λ k d below. each (suc k) d (omega (arith, below))))

lacks_digits : (c : ℕ) (digits : List ℕ) → c ≤ 32 → AllDigits 10 digits → Lacks c digits
lacks_digits c [] low are = tt
lacks_digits c (d ∷ digits) low are =
    let range = digit_from_value d are.0 in
    (λ same. omega (arith, range, low, same), lacks_digits c digits low are.1)

pub lacks_decimal : (c n : ℕ) → c ≤ 32 → n < 10 ^ 64 → Lacks c (decimal n)
lacks_decimal c n low small = lacks_digits c (decimal n) low ((decimal_is_IsNumeral_wide n small).0.1)

-- above a byte, each of them
abbrev pub over : ℕ → List ℕ → Bool
over c [] = true
over c (b ∷ bytes) = cond (ltb c b) (over c bytes) false

pub lacks_over : (c : ℕ) (bytes : List ℕ) → over c bytes ≡ true → Lacks c bytes
lacks_over c [] is = tt
lacks_over c (b ∷ bytes) is = (apart, lacks_over c bytes (rest (ltb c b) is))
  where
    rest : (t : Bool) → cond t (over c bytes) false ≡ true → over c bytes ≡ true
    rest true is = is
    rest false is = absurd (false≢true is)

    apart : b ≡ c → ⊥
    apart same = false≢true (sym (ap (λ (t : Bool). cond t (over c bytes) false) (ap (ltb c) same ∙ le-ltb c c (omega arith))) ∙ is)

-- two ways to part bytes at the first of a byte are one
pub parted : (c : ℕ) (word other text more : List ℕ) → Lacks c word → Lacks c other → word ++ c ∷ text ≡ other ++ c ∷ more → (word ≡ other) × (text ≡ more)
parted c [] [] text more one two e = (refl, cc)
parted c [] (d ∷ other) text more one two e = let byte : c ≡ d = cc in absurd (two.0 (sym byte))
parted c (b ∷ word) [] text more one two e = let byte : b ≡ c = cc in absurd (one.0 byte)
parted c (b ∷ word) (d ∷ other) text more one two e =
    let byte : b ≡ d = cc in
    let rest : word ++ c ∷ text ≡ other ++ c ∷ more = cc in
    let both : (word ≡ other) × (text ≡ more) = parted c word other text more one.1 two.1 rest in
    (cc, both.1)

-- the same bytes in front
pub behind_same : (front one other : List ℕ) → front ++ one ≡ front ++ other → one ≡ other
behind_same [] one other e = e
behind_same (b ∷ front) one other e = let rest : front ++ one ≡ front ++ other = cc in behind_same front one other rest

-- ---- the first of a byte

-- bytes before and behind a place
pub parts_at : (c : ℕ) (bytes : List ℕ) (i : ℕ) → i < length bytes → get_or bytes i 0 ≡ c → bytes ≡ take i bytes ++ c ∷ drop (i + 1) bytes
parts_at c [] i within here = absurd (omega arith)
parts_at c (b ∷ bytes) zero within here = rw (sym here) refl
parts_at c (b ∷ bytes) (suc i) within here =
    let step : suc i + 1 ≡ suc (i + 1) = omega arith in
    rw step (ap (λ (l : List ℕ). b ∷ l) (parts_at c bytes i (omega (arith, within)) here))

-- those before the first
pub front_lacks : (c : ℕ) (bytes : List ℕ) (i : ℕ) → ((k : ℕ) → k < i → get_or bytes k 0 ≡ c → ⊥) → i ≤ length bytes → All (λ b. b ≢ c) (take i bytes)
front_lacks c [] zero none within k d below same = absurd (omega (arith, below))
front_lacks c [] (suc i) none within k d below same = absurd (omega (arith, within))
front_lacks c (b ∷ bytes) zero none within k d below same = absurd (omega (arith, below))
front_lacks c (b ∷ bytes) (suc i) none within zero d below same = none 0 (omega arith) same
front_lacks c (b ∷ bytes) (suc i) none within (suc k) d below same =
    front_lacks c bytes i (λ j under is. none (suc j) (omega (arith, under)) is) (omega (arith, within)) k d (omega (arith, below)) same
