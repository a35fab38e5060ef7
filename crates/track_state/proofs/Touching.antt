-- Series that are touched, one after another.
use Rattle.std.proofs.Common.{◌≡◌, ℕ, ◌+◌, ◌<◌, Bool, true, false, cond, ◌&&◌, ◌||◌, List, length, take, drop, get_or, refl, sym, ap, ap₂, ◌∙◌, inl, inr, Option, Some, arith}
use Rattle.std.specs.{Prelude.{bytes_eq, OnOk, Result}, declared.alloc.AllocError.AllocError, List.list_any, declared.cmp.Ordering.Ordering}
use Rattle.std.{specs.Ordering.{is_eq, ordering_then}, proofs.lemmas.Grind.common_steps, proofs.lemmas.Slice.Eq.bytes_eq-Decides}
use Rattle.std.proofs.lemmas.{Bool.cases_Bool, List.take-append-drop, List.Folds.{list_any-append, list_any_more}, Map.Text.is_eq-slice_cmp}
use Rattle.history_model.specs.Runs.{Series}
use Rattle.touch_index.specs.{Marks.{Entries, key_cmp, mark_of, touched_mark}, declared.key.SeriesKey.SeriesKey, declared.mark.Mark.Mark}
use Rattle.track_state.specs.{Covering.{AreTouched, SomeAreTouched}, Work.key_of}

-- ---- keys and series
both : (x y : Ordering) → is_eq (ordering_then x y) ≡ (is_eq x && is_eq y)
both x y = grind (arith, common_steps)

abbrev pub is_key : SeriesKey → Series → Bool
is_key k s = bytes_eq k.test s.test && bytes_eq k.metric s.metric

abbrev key_series : SeriesKey → Series
key_series k = record { test = k.test; metric = k.metric }

pub key-is : (k : SeriesKey) (s : Series) → is_eq (key_cmp k (key_of s)) ≡ is_key k s
key-is k s = grind (arith, common_steps, both, ap₂, is_eq-slice_cmp)

pub same-key : (k : SeriesKey) (s : Series) → is_key k s ≡ true → k ≡ key_of s
same-key k s both = grind (arith, common_steps, both, bytes_eq-Decides, ap₂)

key-itself : (k : SeriesKey) → is_key k (key_series k) ≡ true
key-itself k = ap (λ b. b && bytes_eq k.metric k.metric) ((bytes_eq-Decides k.test k.test).1 refl) ∙ (bytes_eq-Decides k.metric k.metric).1 refl

-- a choice at the key itself
pub same-itself : (k : SeriesKey) (x y : Option Mark) → cond (is_eq (key_cmp k k)) x y ≡ x
same-itself k x y = ap (λ b. cond b x y) (key-is k (key_series k) ∙ key-itself k)

-- ---- touches
pub one-touch : (k : SeriesKey) (step : ℕ) (a b : Entries)
    → ((q : SeriesKey) → mark_of q b ≡ cond (is_eq (key_cmp k q)) (Some (touched_mark step (mark_of k a))) (mark_of q a)) → AreTouched (is_key k) step a b
one-touch k step a b touched s =
    touched (key_of s)
    ∙ ap (λ c. cond c (Some (touched_mark step (mark_of k a))) (mark_of (key_of s) a)) (key-is k s)
    ∙ elim (cases_Bool (is_key k s)) [
      | inl same ↦ ap (λ (q : SeriesKey). cond (is_key k s) (Some (touched_mark step (mark_of q a))) (mark_of (key_of s) a)) (same-key k s same)
      | inr other ↦
          ap (λ c. cond c (Some (touched_mark step (mark_of k a))) (mark_of (key_of s) a)) other
          ∙ sym (ap (λ c. cond c (Some (touched_mark step (mark_of (key_of s) a))) (mark_of (key_of s) a)) other)
    ]

module _ (p q : Series → Bool) (step : ℕ) where
  pub push : (a b c : Entries) → AreTouched p step a b → AreTouched q step b c → AreTouched (λ s. p s || q s) step a c
  push a b c first then s = grind (arith, common_steps)

  pub same : (a b : Entries) → ((s : Series) → p s ≡ q s) → AreTouched p step a b → AreTouched q step a b
  same a b agree are s = are s ∙ ap (λ d. cond d (Some (touched_mark step (mark_of (key_of s) a))) (mark_of (key_of s) a)) (agree s)

  pub some : (a b : Entries) → ((s : Series) → p s ≡ true → q s ≡ true) → AreTouched p step a b → SomeAreTouched q step a b
  some a b within are s = grind (arith, common_steps)

pub nothing : (p : Series → Bool) (step : ℕ) (a : Entries) → ((s : Series) → p s ≡ false) → AreTouched p step a a
nothing p step a none s = sym (ap (λ d. cond d (Some (touched_mark step (mark_of (key_of s) a))) (mark_of (key_of s) a)) (none s))

pub some-same : (p q : Series → Bool) (step : ℕ) (a b : Entries) → ((s : Series) → p s ≡ q s) → SomeAreTouched p step a b → SomeAreTouched q step a b
some-same p q step a b agree some s = elim (some s) [ inl kept ↦ inl kept | inr hit ↦ inr (sym (agree s) ∙ hit.0, hit.1) ]

-- ---- a list of touches
module _ {A : Type 0} (p : A → Series → Bool) (xs : List A) where
  pub one-more : (i : ℕ) (d : A) → i < length xs → (s : Series) → (list_any (λ x. p x s) (take i xs) || p (get_or xs i d) s) ≡ list_any (λ x. p x s) (take (i + 1) xs)
  one-more i d lt s = sym (list_any_more (λ x. p x s) xs i d lt)

  pub all-of : (i : ℕ) (s : Series) → list_any (λ x. p x s) (take i xs) ≡ true → list_any (λ x. p x s) xs ≡ true
  all-of i s hit =
      ap (list_any (λ x. p x s)) (sym (take-append-drop i xs)) ∙ list_any-append (λ x. p x s) (take i xs) (drop i xs)
      ∙ ap (λ b. b || list_any (λ x. p x s) (drop i xs)) hit

-- where a call answers that all went well
pub same-all : (p q : Series → Bool) (step : ℕ) (a b : Entries) (r : Result (Unit {0}) AllocError) → ((s : Series) → p s ≡ q s) → OnOk r (AreTouched p step a b) → OnOk r (AreTouched q step a b)
same-all p q step a b r agree are = grind (arith, common_steps)
