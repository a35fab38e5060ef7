-- Private: no public contract cites this. Exchanges of a script, one more at the end.
use Rattle.std.proofs.Common.{◌≡◌, ◌⊎◌, inl, inr, ℕ, zero, suc, ◌<◌, Bool, true, false, List, [], ◌∷◌, ◌++◌, length, map, filter, take, Some, refl, sym, ap, subst, ◌∙◌, arith, append-nil}
use Rattle.std.{specs.Prelude.slice_get, proofs.lemmas.Bool.cases_Bool, proofs.lemmas.Grind.flat_map-append}
use Rattle.std.proofs.lemmas.{List.{map-append, take-append-le, take_all}, Option.slice_get_within}
use Rattle.history_model.specs.declared.entries.{Author.Author, Placed.Placed}
use Rattle.request_words.specs.Bodies.{Item}
use Rattle.reply_text.specs.Replies.{text_of}
use Rattle.play_fits.specs.Scripts.{Exchange, items_of, is_about, known_after, last_from, replies_text, AreAnswered, IsAnswer}

-- ---- lists

pub snoc_at : {A : Type 0} (xs : List A) (x y : A) (n : ℕ) → slice_get (xs ++ x ∷ []) n ≡ Some y
    → ((n < length xs) × (slice_get xs n ≡ Some y)) ⊎ ((n ≡ length xs) × (y ≡ x))
snoc_at [] x y zero is = inr (refl, cc)
snoc_at [] x y (suc n) is = absurd (cc)
snoc_at (z ∷ xs) x y zero is = inl (omega arith, is)
snoc_at (z ∷ xs) x y (suc n) is = elim (snoc_at xs x y n is) [
  | inl l ↦ inl (omega (arith, l.0), l.1)
  | inr r ↦ inr (ap suc r.0, r.1)
]

pub at_front : {A : Type 0} (xs more : List A) (n : ℕ) (y : A) → slice_get xs n ≡ Some y → slice_get (xs ++ more) n ≡ Some y
at_front [] more zero y is = absurd (cc)
at_front [] more (suc n) y is = absurd (cc)
at_front (x ∷ xs) more zero y is = is
at_front (x ∷ xs) more (suc n) y is = at_front xs more n y is

pub at_end : {A : Type 0} (xs : List A) (x : A) → slice_get (xs ++ x ∷ []) (length xs) ≡ Some x
at_end [] x = refl
at_end (y ∷ xs) x = at_end xs x

pub take_front : {A : Type 0} (xs : List A) (x : A) → take (length xs) (xs ++ x ∷ []) ≡ xs
take_front xs x = take-append-le (length xs) xs (x ∷ []) (omega arith) ∙ take_all (length xs) xs (omega arith)

pub take_next : {A : Type 0} (xs : List A) (n : ℕ) (x : A) → slice_get xs n ≡ Some x → take (suc n) xs ≡ take n xs ++ x ∷ []
take_next [] zero x is = absurd (cc)
take_next [] (suc n) x is = absurd (cc)
take_next (y ∷ xs) zero x is = let same : y ≡ x = cc in ap (λ z. z ∷ []) same
take_next (y ∷ xs) (suc n) x is = ap (λ l. y ∷ l) (take_next xs n x is)

-- the last of some numbers
module _ {A : Type 0} (p : A → Bool) (f : A → ℕ) where
  last_snoc : (k : ℕ) (xs : List A) (x : A) → p x ≡ true → last_from k (map f (filter p (xs ++ x ∷ []))) ≡ f x
  last_snoc k [] x is = rw is refl
  last_snoc k (y ∷ xs) x is = elim (cases_Bool (p y)) [
    | inl hit ↦ rw hit (last_snoc (f y) xs x is)
    | inr past ↦ rw past (last_snoc k xs x is)
  ]

  last_skip : (k : ℕ) (xs : List A) (x : A) → p x ≡ false → last_from k (map f (filter p (xs ++ x ∷ []))) ≡ last_from k (map f (filter p xs))
  last_skip k [] x is = rw is refl
  last_skip k (y ∷ xs) x is = elim (cases_Bool (p y)) [
    | inl hit ↦ rw hit (last_skip (f y) xs x is)
    | inr past ↦ rw past (last_skip k xs x is)
  ]

-- what is known behind one more
pub known_about : (k : ℕ) (m : List ℕ) (xs : List Exchange) (x : Exchange) → is_about m x ≡ true → known_after k m (xs ++ x ∷ []) ≡ x.reply.step
known_about k m xs x is = last_snoc (is_about m) (λ (y : Exchange). y.reply.step) k xs x is

pub known_else : (k : ℕ) (m : List ℕ) (xs : List Exchange) (x : Exchange) → is_about m x ≡ false → known_after k m (xs ++ x ∷ []) ≡ known_after k m xs
known_else k m xs x is = last_skip (is_about m) (λ (y : Exchange). y.reply.step) k xs x is

-- ---- texts

pub text_more : (xs : List Exchange) (x : Exchange) → replies_text (xs ++ x ∷ []) ≡ replies_text xs ++ text_of x.reply
text_more xs x =
    flat_map-append (λ (y : Exchange). text_of y.reply) xs (x ∷ []) ∙ ap (λ l. replies_text xs ++ l) (append-nil (text_of x.reply))

pub items_more : (xs : List Exchange) (x : Exchange) → items_of (xs ++ x ∷ []) ≡ items_of xs ++ x.item ∷ []
items_more xs x = map-append (λ (y : Exchange). y.item) xs (x ∷ [])

-- exchanges whose items are some and one more
pub record Splits (ys : List Exchange) (front : List Item) (item : Item) : Type 0 where
  pub before : List Exchange
  pub last : Exchange
  pub is : ys ≡ before ++ last ∷ []
  pub asks : items_of before ≡ front
  pub its : last.item ≡ item

pub split_last : (ys : List Exchange) (front : List Item) (item : Item) → items_of ys ≡ front ++ item ∷ [] → Splits ys front item
split_last [] [] item is = absurd (cc)
split_last [] (f ∷ front) item is = absurd (cc)
split_last (y ∷ []) [] item is = let same : y.item ≡ item = cc in record { before = []; last = y; is = refl; asks = refl; its = same }
split_last (y ∷ z ∷ ys) [] item is = absurd (cc)
split_last (y ∷ ys) (f ∷ front) item is =
    let head : y.item ≡ f = cc in
    let tail : items_of ys ≡ front ++ item ∷ [] = cc in
    let s : Splits ys front item = split_last ys front item tail in
    record {
      before = y ∷ s.before;
      last = s.last;
      is = ap (λ l. y ∷ l) s.is;
      asks = ap (λ (i : Item). i ∷ items_of s.before) head ∙ ap (λ l. f ∷ l) s.asks;
      its = s.its;
    }

-- ---- replies

module _ (author : Author) (machines : List (List ℕ)) (journal : List ℕ → List Placed) (kept : List ℕ → ℕ) where
  abbrev Fits : List Exchange → Exchange → Type 0
  Fits xs x = IsAnswer author machines journal (λ m. known_after (kept m) m xs) x.item x.reply

  pub given_none : AreAnswered author machines journal kept []
  given_none zero x here = absurd (cc)
  given_none (suc n) x here = absurd (cc)

  pub given_more : (xs : List Exchange) (x : Exchange) → AreAnswered author machines journal kept xs → Fits xs x → AreAnswered author machines journal kept (xs ++ x ∷ [])
  given_more xs x given fits n y here = elim (snoc_at xs x y n here) [
    | inl l ↦
        let front : take n (xs ++ x ∷ []) ≡ take n xs = take-append-le n xs (x ∷ []) (omega (arith, l.0)) in
        subst (λ (t : List Exchange). Fits t y) (sym front) (given n y l.1)
    | inr r ↦
        let front : take n (xs ++ x ∷ []) ≡ xs = ap (λ (k : ℕ). take k (xs ++ x ∷ [])) r.0 ∙ take_front xs x in
        subst (λ (t : List Exchange). Fits t y) (sym front) (subst (Fits xs) (sym r.1) fits)
  ]

  pub given_front : (xs more : List Exchange) → AreAnswered author machines journal kept (xs ++ more) → AreAnswered author machines journal kept xs
  given_front xs more given n y here =
      let within : n < length xs = slice_get_within xs n y here in
      let front : take n (xs ++ more) ≡ take n xs = take-append-le n xs more (omega (arith, within)) in
      subst (λ (t : List Exchange). Fits t y) front (given n y (at_front xs more n y here))

  pub given_last : (xs : List Exchange) (x : Exchange) → AreAnswered author machines journal kept (xs ++ x ∷ []) → Fits xs x
  given_last xs x given = subst (λ (t : List Exchange). Fits t x) (take_front xs x) (given (length xs) x (at_end xs x))
