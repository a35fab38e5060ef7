-- The first space of bytes that are a word without one, a space, and more.
use Rattle.std.proofs.Common.{◌≡◌, inl, inr, ℕ, suc, zero, ◌+◌, ◌<◌, List, [], ◌∷◌, ◌++◌, length, get_or, take, drop, refl, sym, ap, ◌∙◌, arith, All}
use Rattle.std.{specs.Prelude.slice_index, proofs.lemmas.Bool.cases_order}
use Rattle.line_text.specs.Names.{MayStand}

space_stands : (word text : List ℕ) → get_or (word ++ 32 ∷ text) (length word) 0 ≡ 32
space_stands [] text = refl
space_stands (b ∷ word) text = space_stands word text

front_stands : (word text : List ℕ) (i : ℕ) → i < length word → get_or (word ++ 32 ∷ text) i 0 ≡ get_or word i 0
front_stands [] text i within = absurd (omega arith)
front_stands (b ∷ word) text zero within = refl
front_stands (b ∷ word) text (suc i) within = front_stands word text i (omega arith)

front_is : (word text : List ℕ) → take (length word) (word ++ 32 ∷ text) ≡ word
front_is [] text = refl
front_is (b ∷ word) text = ap (λ (l : List ℕ). b ∷ l) (front_is word text)

shorter : (word text : List ℕ) → length word < length (word ++ 32 ∷ text)
shorter [] text = omega arith
shorter (b ∷ word) text = omega (arith, shorter word text)

pub no_space : (bytes word text : List ℕ) → ((k : ℕ) → k < length bytes → slice_index bytes k ≡ 32 → ⊥) → bytes ≡ word ++ 32 ∷ text → ⊥
no_space bytes word text none is =
    none (length word) (rw is (shorter word text)) (rw is (space_stands word text))

place_is : (word text : List ℕ) (i : ℕ) → All MayStand word → get_or (word ++ 32 ∷ text) i 0 ≡ 32
    → ((k : ℕ) → k < i → get_or (word ++ 32 ∷ text) k 0 ≡ 32 → ⊥) → i ≡ length word
place_is word text i stand here first = elim (cases_order i (length word)) [
  | inl same ↦ same
  | inr (inl before) ↦
      let byte : get_or word i 0 ≡ 32 = sym (front_stands word text i before) ∙ here in
      let may : MayStand (get_or word i 0) = stand i 0 before in
      absurd (omega (arith, may.0))
  | inr (inr behind) ↦ absurd (first (length word) behind (space_stands word text))
]

pub word_is : (bytes word text : List ℕ) (i : ℕ) → All MayStand word → slice_index bytes i ≡ 32 → ((k : ℕ) → k < i → slice_index bytes k ≡ 32 → ⊥)
    → bytes ≡ word ++ 32 ∷ text → take i bytes ≡ word
word_is bytes word text i stand here first is =
    let place : i ≡ length word = place_is word text i stand (ap (λ (l : List ℕ). get_or l i 0) (sym is) ∙ here)
    (λ (k : ℕ) (below : k < i) (e : get_or (word ++ 32 ∷ text) k 0 ≡ 32). first k below (ap (λ (l : List ℕ). get_or l k 0) is ∙ e)) in
    rw (place, is) (front_is word text)

-- the bytes are the word before a space, the space, and what stands behind it
pub parts : (bytes word : List ℕ) (i : ℕ) → i < length bytes → get_or bytes i 0 ≡ 32 → take i bytes ≡ word → bytes ≡ word ++ 32 ∷ drop (i + 1) bytes
parts [] word i within here is = absurd (omega arith)
parts (b ∷ bytes) word zero within here is = rw (sym is, here) refl
parts (b ∷ bytes) word (suc i) within here is =
    let rest : bytes ≡ take i bytes ++ 32 ∷ drop (i + 1) bytes = parts bytes (take i bytes) i (omega arith) here refl in
    let step : suc i + 1 ≡ suc (i + 1) = omega arith in
    rw (← is, step) (ap (λ (l : List ℕ). b ∷ l) rest)

-- two words before a space are one, and so is what stands behind it
pub one_parting : (word other text more : List ℕ) → All MayStand word → All MayStand other → word ++ 32 ∷ text ≡ other ++ 32 ∷ more → (word ≡ other) × (text ≡ more)
one_parting [] [] text more a b e = (refl, cc)
one_parting [] (c ∷ other) text more a b e =
    let byte : 32 ≡ c = cc in
    let may : MayStand c = b 0 0 (omega arith) in
    absurd (omega (arith, may.0))
one_parting (c ∷ word) [] text more a b e =
    let byte : c ≡ 32 = cc in
    let may : MayStand c = a 0 0 (omega arith) in
    absurd (omega (arith, may.0))
one_parting (c ∷ word) (d ∷ other) text more a b e =
    let byte : c ≡ d = cc in
    let rest : word ++ 32 ∷ text ≡ other ++ 32 ∷ more = cc in
    let parted : (word ≡ other) × (text ≡ more) =
    one_parting word other text more (λ k z h. a (suc k) z (omega arith)) (λ k z h. b (suc k) z (omega arith)) rest in
    (cc, parted.1)
