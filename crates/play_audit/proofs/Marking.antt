-- Private: no public contract cites this. Marks on the entries that exchanges added.
use Rattle.std.proofs.Common.{◌≡◌, ◌⊎◌, inl, inr, ℕ, ◌+◌, ◌<◌, ◌≤◌, Bool, true, false, List, [], ◌∷◌, ◌++◌, length, filter, take, get_or, replicate, Some, sym, ap, subst, ◌∙◌, arith}
use Rattle.std.{specs.Prelude.slice_get, proofs.lemmas.Option.slice_get_within, proofs.lemmas.Grind.common_steps}
use Rattle.track_model.specs.Tracks.{Track}
use Rattle.history_model.specs.declared.entries.Placed.{Placed}
use Rattle.audit_model.{proofs.Exchanges.{at_end, at_front, snoc_at, take_front}, specs.Heard.kept_count}
use Rattle.play_fits.specs.{Journals.history_in, Scripts.{Exchange, known_after}}
use Rattle.play_model.specs.Replies.{Adds}
use Rattle.std.proofs.lemmas.List as lists
use Rattle.play_audit.{specs.Marks.{AreRows, IsAddedBy, IsAddedIn, IsOpenIn, MarksAll, MarksOne, NoneMarked}, proofs.Listed.{lt-or-le, same_at}}
use Rattle.history_model.specs.declared.entries.Author.TheVariants as author

pub filter_short : {A : Type 0} (p : A → Bool) (xs : List A) → length (filter p xs) ≤ length xs
filter_short p [] = omega arith
filter_short p (x ∷ xs) = grind (arith, common_steps, filter_short p xs)

-- rows for the first journals, so many, with nothing marked
pub record AreRowsFirst (ts : List Track) (n : ℕ) (rows : List (List Bool)) : Type 0 where
  pub many : length rows ≡ n
  pub each : (at : ℕ) (t : Track) → at < n → slice_get ts at ≡ Some t → length (get_or rows at []) ≡ length t.history
  pub none : NoneMarked rows

pub next_row : (ts : List Track) (n : ℕ) (t : Track) (rows : List (List Bool)) (row : List Bool) → AreRowsFirst ts n rows → slice_get ts n ≡ Some t
    → row ≡ replicate (length t.history) false → AreRowsFirst ts (n + 1) (rows ++ row ∷ [])
next_row ts n t rows row first here is = grind (arith, common_steps)

pub all_rows : (ts : List Track) (n : ℕ) (rows : List (List Bool)) → n ≡ length ts → AreRowsFirst ts n rows → AreRows ts rows
all_rows ts n rows size first = grind (arith, common_steps, slice_get_within)

-- ---- one entry further

pub shut_more : (h : List Placed) (row : List Bool) (n : ℕ) (p : Placed) → slice_get h n ≡ Some p → ((k : ℕ) → k < n → IsOpenIn h row k → ⊥)
    → ((i : ℕ) → p.author ≡ author.Script i → ⊥) ⊎ (get_or row n false ≡ true) → (k : ℕ) → k < n + 1 → IsOpenIn h row k → ⊥
shut_more h row n p here none why k below o = elim (lt-or-le k n) [
  | inl front ↦ none k front o
  | inr past ↦
      let same : k ≡ n = omega (arith, past, below) in
      let entry : o.entry ≡ p = same_at h n o.entry p (subst (λ (m : ℕ). slice_get h m ≡ Some o.entry) same o.there) here in
      elim why [
        | inl other ↦ other o.script (sym (ap (λ (x : Placed). x.author) entry) ∙ o.its)
        | inr marked ↦ let both : true ≡ false = sym marked ∙ ap (λ (m : ℕ). get_or row m false) (sym same) ∙ o.unmarked in absurd (cc)
      ]
]

-- ---- one exchange more

added-front : (ts : List Track) (i : ℕ) (xs : List Exchange) (x : Exchange) (t : Track) (place : ℕ) → IsAddedIn ts i xs t place → IsAddedIn ts i (xs ++ x ∷ []) t place
added-front ts i xs x t place is =
    let within : is.before < length xs = slice_get_within xs is.before is.exchange is.here in
    let front : take is.before (xs ++ x ∷ []) ≡ take is.before xs = lists.take-append-le is.before xs (x ∷ []) (omega (arith, within)) in
    record {
      before = is.before;
      exchange = is.exchange;
      here = at_front xs (x ∷ []) is.before is.exchange is.here;
      request = is.request;
      asked = is.asked;
      about = is.about;
      adds = subst (λ (l : List Exchange). Adds (author.Script i) (history_in ts t.machine) (known_after (kept_count ts t.machine) t.machine l) is.request is.exchange.reply) (sym front) is.adds;
      its_step = is.its_step;
    }

added-last : (ts : List Track) (i : ℕ) (xs : List Exchange) (x : Exchange) (t : Track) (place : ℕ) → IsAddedBy ts i xs x t place → IsAddedIn ts i (xs ++ x ∷ []) t place
added-last ts i xs x t place by = record {
  before = length xs;
  exchange = x;
  here = at_end xs x;
  request = by.request;
  asked = by.asked;
  about = by.about;
  adds = subst (λ (l : List Exchange). Adds (author.Script i) (history_in ts t.machine) (known_after (kept_count ts t.machine) t.machine l) by.request x.reply) (sym (take_front xs x)) by.adds;
  its_step = by.its_step;
}

added-so : (ts : List Track) (i : ℕ) (xs : List Exchange) (x : Exchange) (t : Track) (place : ℕ) → IsAddedIn ts i (xs ++ x ∷ []) t place
    → IsAddedIn ts i xs t place ⊎ IsAddedBy ts i xs x t place
added-so ts i xs x t place is = elim (snoc_at xs x is.exchange is.before is.here) [
  | inl l ↦
      let front : take is.before (xs ++ x ∷ []) ≡ take is.before xs = lists.take-append-le is.before xs (x ∷ []) (omega (arith, l.0)) in
      inl record {
        before = is.before;
        exchange = is.exchange;
        here = l.1;
        request = is.request;
        asked = is.asked;
        about = is.about;
        adds = subst (λ (m : List Exchange). Adds (author.Script i) (history_in ts t.machine) (known_after (kept_count ts t.machine) t.machine m) is.request is.exchange.reply) front is.adds;
        its_step = is.its_step;
      }
  | inr r ↦
      let front : take is.before (xs ++ x ∷ []) ≡ xs = ap (λ (k : ℕ). take k (xs ++ x ∷ [])) r.0 ∙ take_front xs x in
      inr record {
        request = is.request;
        asked = ap (λ (y : Exchange). y.item) (sym r.1) ∙ is.asked;
        about = is.about;
        adds = grind (arith, common_steps);
        its_step = ap (λ (y : Exchange). y.reply.step) (sym r.1) ∙ is.its_step;
      }
]

pub more_marked : (ts : List Track) (i : ℕ) (xs : List Exchange) (x : Exchange) (old mid new : List (List Bool)) → MarksAll ts i xs old mid → MarksOne ts i xs x mid new
    → MarksAll ts i (xs ++ x ∷ []) old new
more_marked ts i xs x old mid new all one = record {
  rows = one.rows;
  kept = λ at place is. one.kept at place (all.kept at place is);
  added = λ at place t here is. elim (added-so ts i xs x t place is) [
    | inl before ↦ one.kept at place (all.added at place t here before)
    | inr by ↦ one.added at place t here by
  ];
  only = grind (arith, common_steps, added-front, added-last);
}
