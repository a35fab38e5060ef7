-- Lists of views, and histories that are beginnings of one another.
use Rattle.std.proofs.Common.{◌≡◌, ℕ, zero, suc, ◌+◌, ◌<◌, ◌≤◌, ◌≢◌, ◌⊎◌, List, [], ◌∷◌, ◌++◌, drop, length, get_or, set, inl, inr, sym, refl, ap, ◌∙◌, subst, ⊎_elim, arith}
use Rattle.std.{specs.Prelude.{Option, Some, None}, proofs.lemmas.Grind.common_steps}
use mathlib.Core.{Option.{some, some-injective, some-ne-none}, List.{append_assoc, append-nil}}
use lib.ListN.{get_elem?}
use Rattle.atomic_table.{specs.Table.rest, proofs.Lists.at_set}
use Rattle.history_lock.specs.declared.view.{View.View, Marked.Marked, Stage.Stage}
use Rattle.history_lock.specs.Marks.{AreByOthers, Follows, HaveMarksUpTo, IsLongerOf, IsNoneOf, IsOtherMark, marked}
use Rattle.history_lock.specs.Rule.{busy, alive, HasTurn, Holds, waiting, living, Knows}

module _ {A : Type 0} where
  pub seats_stay : (K : ℕ → A → Type 0) (vs : List A) (me : ℕ) (w : A) → K me w → ((j : ℕ) (d : A) → j ≢ me → get_elem? vs j ≡ some d → K j d)
      → (j : ℕ) (d : A) → get_elem? (set vs me w) j ≡ some d → K j d
  seats_stay K vs me w mine others j d e = grind (arith, common_steps, at_set)

  pub at_end : (l : List A) (a b : A) (j : ℕ) → get_elem? (l ++ a ∷ []) j ≡ some b → (get_elem? l j ≡ some b) ⊎ ((j ≡ length l) × (a ≡ b))
  at_end [] a b zero e = inr (refl, some-injective a b e)
  at_end [] a b (suc j) e = absurd (some-ne-none b (sym e))
  at_end (x ∷ xs) a b zero e = inl e
  at_end (x ∷ xs) a b (suc j) e = ⊎_elim (λ t. inl t) (λ t. inr (ap suc t.0, t.1)) (at_end xs a b j e)

  pub seats_snoc : (K : ℕ → A → Type 0) (vs : List A) (u : A) → K (length vs) u → ((j : ℕ) (d : A) → get_elem? vs j ≡ some d → K j d) → (j : ℕ) (d : A) → get_elem? (vs ++ u ∷ []) j ≡ some d → K j d
  seats_snoc K vs u mine others j d e = ⊎_elim (λ t. others j d t) (λ t. subst (λ (x : ℕ × A). K x.0 x.1) (λ i. (sym t.0 i, t.1 i)) mine) (at_end vs u d j e)

  pub pairs_snoc : (R : ℕ → ℕ → A → A → Type 0) (vs : List A) (u : A)
      → ((i j : ℕ) (a b : A) → get_elem? vs i ≡ some a → get_elem? vs j ≡ some b → R i j a b)
      → ((j : ℕ) (b : A) → get_elem? vs j ≡ some b → R (length vs) j u b)
      → ((i : ℕ) (a : A) → get_elem? vs i ≡ some a → R i (length vs) a u)
      → R (length vs) (length vs) u u
      → (i j : ℕ) (a b : A) → get_elem? (vs ++ u ∷ []) i ≡ some a → get_elem? (vs ++ u ∷ []) j ≡ some b → R i j a b
  pairs_snoc R vs u old left right both i j a b p q = seats_snoc (λ k d. R k j d b) vs u
      (seats_snoc (λ k d. R (length vs) k u d) vs u both left j b q)
      (λ k d at. seats_snoc (λ l e. R k l d e) vs u (right k d at) (λ l e at'. old k l d e at at') j b q) i a p

  pub pairs_stay : (R : ℕ → ℕ → A → A → Type 0) (vs : List A) (me : ℕ) (w : A)
      → ((i j : ℕ) (a b : A) → get_elem? vs i ≡ some a → get_elem? vs j ≡ some b → R i j a b)
      → ((j : ℕ) (b : A) → j ≢ me → get_elem? vs j ≡ some b → R me j w b)
      → ((i : ℕ) (a : A) → i ≢ me → get_elem? vs i ≡ some a → R i me a w)
      → R me me w w
      → (i j : ℕ) (a b : A) → get_elem? (set vs me w) i ≡ some a → get_elem? (set vs me w) j ≡ some b → R i j a b
  pairs_stay R vs me w old left right both i j a b p q = seats_stay (λ k d. R k j d b) vs me w
      (seats_stay (λ k d. R me k w d) vs me w both left j b q)
      (λ k d apart at. seats_stay (λ l e. R k l d e) vs me w (right k d apart at) (λ l e _ at'. old k l d e at at') j b q) i a p

module _ {A : Type 0} where
  abbrev head_or : A → List A → A
  head_or d [] = d
  head_or d (x ∷ xs) = x

  pub at_get : (l : List A) (i : ℕ) (a d : A) → get_elem? l i ≡ some a → get_or l i d ≡ a
  at_get [] i a d e = absurd (some-ne-none a (sym e))
  at_get (x ∷ xs) zero a d e = some-injective x a e
  at_get (x ∷ xs) (suc i) a d e = at_get xs i a d e

  pub first_of_them : (l c : List (ℕ × A)) (x : ℕ × A) → l ≡ x ∷ c → l ≡ x ∷ rest l
  first_of_them l c x e = subst (λ (z : List (ℕ × A)). z ≡ x ∷ rest z) (sym e) refl

  pub within : (l : List A) (i : ℕ) (a : A) → get_elem? l i ≡ some a → i < length l
  within [] i a e = absurd (some-ne-none a (sym e))
  within (x ∷ xs) zero a e = omega arith
  within (x ∷ xs) (suc i) a e = let r = within xs i a e in omega arith

abbrev pub number : Option ℕ → ℕ
number (Some m) = m
number None = 0

abbrev pub is_none : Option ℕ → Type 0
is_none None = Unit {0}
is_none (Some m) = ⊥

pub none_some : {m : ℕ} → None ≡ Some m → ⊥
none_some e = subst is_none e tt

abbrev pub IsSomeOf : {A : Type 0} → A → Option A → Type 0
IsSomeOf x (Some y) = x ≡ y
IsSomeOf x None = ⊥

pub some_same : {A : Type 0} {x y : A} → Some x ≡ Some y → x ≡ y
some_same {x = x} e = subst (IsSomeOf x) e refl

module _ {A : Type 0} where
  pub only : (a b : A) (i : ℕ) → get_elem? (a ∷ []) i ≡ some b → (i ≡ 0) × (a ≡ b)
  only a b i e = grind (arith, common_steps)

module _ {E : Type 0} where
  -- a pass that was joined has no turn, and no pass has two
  alive_or_spent : (st : Stage E) → ((alive st ≡ 1) × (busy st ≤ 1)) ⊎ (busy st ≡ 0)
  alive_or_spent st = grind (arith, common_steps)

  pub alive_or_idle : (st : Stage E) → (alive st ≡ 1) ⊎ (busy st ≡ 0)
  alive_or_idle st = ⊎_elim (λ lives. inl lives.0) (λ idle. inr idle) (alive_or_spent st)

  pub holds_busy : (st : Stage E) → Holds st → busy st ≡ 1
  holds_busy st h = grind (arith, common_steps)

  busy_alive : (st : Stage E) → busy st ≤ alive st
  busy_alive st = ⊎_elim (λ lives. let a = lives.0 in let b = lives.1 in omega arith) (λ idle. omega arith) (alive_or_spent st)

  pub clean-append : (marks : List ℕ) (xs ys : List (Marked E)) → AreByOthers marks xs → AreByOthers marks ys → AreByOthers marks (xs ++ ys)
  clean-append marks [] ys a b = b
  clean-append marks (x ∷ xs) ys a b = (a.0, clean-append marks xs ys a.1 b)

  pub follows_more : (marks : List ℕ) (seen log : List (Marked E)) (x : Marked E) → IsOtherMark marks x.by → Follows marks seen log → Follows marks seen (log ++ x ∷ [])
  follows_more marks seen log x free f = (f.0 ++ x ∷ [], ap (λ l. l ++ x ∷ []) f.1 ∙ append_assoc seen f.0 (x ∷ []), clean-append marks f.0 (x ∷ []) f.2 (free, tt))

  pub follows_all : (marks : List ℕ) (log : List (Marked E)) → Follows marks log log
  follows_all marks log = ([], sym (append-nil log), tt)

  pub given-append : (n : ℕ) (xs ys : List (Marked E)) → HaveMarksUpTo n xs → HaveMarksUpTo n ys → HaveMarksUpTo n (xs ++ ys)
  given-append n [] ys a b = b
  given-append n (x ∷ xs) ys a b = (a.0, given-append n xs ys a.1 b)

module _ {A : Type 0} where
  -- of two beginnings of one list one begins the other
  pub begin_one : (log xs ys r q : List A) → log ≡ xs ++ r → log ≡ ys ++ q → ((k : List A) × (ys ≡ xs ++ k) × (r ≡ k ++ q)) ⊎ ((k : List A) × (xs ≡ ys ++ k) × (q ≡ k ++ r))
  begin_one log [] ys r q e f = inl (ys, refl, sym e ∙ f)
  begin_one log (x ∷ xs) [] r q e f = inr (x ∷ xs, refl, sym f ∙ e)
  begin_one log (x ∷ xs) (y ∷ ys) r q e f = let same = sym e ∙ f in let h : x ≡ y = ap (head_or x) same in
      ⊎_elim (λ t. inl (t.0, (λ i. sym h i ∷ t.1 i), t.2)) (λ t. inr (t.0, (λ i. h i ∷ t.1 i), t.2)) (begin_one (xs ++ r) xs ys r q refl (ap (drop 1) same))

free_both : (k m : ℕ) (ms : List ℕ) (by : Option ℕ) → IsOtherMark (k ∷ ms) by → IsOtherMark (m ∷ []) by → IsOtherMark (k ∷ m ∷ ms) by
free_both k m ms by a b = grind (arith, common_steps)

new_mark : (n k : ℕ) (ms : List ℕ) (by : Option ℕ) → n < k → ((m : ℕ) → by ≡ Some m → m ≤ n) → IsOtherMark ms by → IsOtherMark (k ∷ []) by
new_mark n k ms by less given free = grind (arith, common_steps)

module _ {E : Type 0} where
  pub clean-left : (marks : List ℕ) (xs ys : List (Marked E)) → AreByOthers marks (xs ++ ys) → AreByOthers marks xs
  clean-left marks [] ys a = tt
  clean-left marks (x ∷ xs) ys a = (a.0, clean-left marks xs ys a.1)

  pub clean-right : (marks : List ℕ) (xs ys : List (Marked E)) → AreByOthers marks (xs ++ ys) → AreByOthers marks ys
  clean-right marks [] ys a = a
  clean-right marks (x ∷ xs) ys a = clean-right marks xs ys a.1

  pub clean_both : (k m : ℕ) (ms : List ℕ) (xs : List (Marked E)) → AreByOthers (k ∷ ms) xs → AreByOthers (m ∷ []) xs → AreByOthers (k ∷ m ∷ ms) xs
  clean_both k m ms [] a b = tt
  clean_both k m ms (x ∷ xs) a b = (free_both k m ms x.by a.0 b.0, clean_both k m ms xs a.1 b.1)

  -- two beginnings of one history, and the longer one
  pub longer_of : (log xs ys : List (Marked E)) (k m : ℕ) (ms : List ℕ) → Follows (k ∷ ms) xs log → Follows (m ∷ []) ys log
      → (l : List (Marked E)) × IsLongerOf (k ∷ ms) xs (m ∷ []) ys l × Follows (k ∷ m ∷ ms) l log
  longer_of log xs ys k m ms f g = ⊎_elim
      (λ t. let c : AreByOthers (k ∷ ms) (t.0 ++ g.0) = subst (AreByOthers (k ∷ ms)) t.2 f.2 in
      (ys, inr (refl, (t.0, t.1, clean-left (k ∷ ms) t.0 g.0 c)), (g.0, g.1, clean_both k m ms g.0 (clean-right (k ∷ ms) t.0 g.0 c) g.2)))
      (λ t. let c : AreByOthers (m ∷ []) (t.0 ++ f.0) = subst (AreByOthers (m ∷ [])) t.2 g.2 in
      (xs, inl (refl, (t.0, t.1, clean-left (m ∷ []) t.0 f.0 c)), (f.0, f.1, clean_both k m ms f.0 f.2 (clean-right (m ∷ []) t.0 f.0 c))))
      (begin_one log xs ys f.0 g.0 f.1 g.1)

  -- a mark that is given later is none of those
  pub clean_new : (n k : ℕ) (ms : List ℕ) (xs : List (Marked E)) → n < k → HaveMarksUpTo n xs → AreByOthers ms xs → AreByOthers (k ∷ []) xs
  clean_new n k ms [] less given clean = tt
  clean_new n k ms (x ∷ xs) less given clean = (new_mark n k ms x.by less given.0 clean.0, clean_new n k ms xs less given.1 clean.1)

  pub given_more : (n k : ℕ) (xs : List (Marked E)) → n ≤ k → HaveMarksUpTo n xs → HaveMarksUpTo k xs
  given_more n k [] le a = tt
  given_more n k (x ∷ xs) le a = ((λ m is. let b = a.0 m is in omega arith), given_more n k xs le a.1)

  pub given-left : (n : ℕ) (xs ys : List (Marked E)) → HaveMarksUpTo n (xs ++ ys) → HaveMarksUpTo n xs
  given-left n [] ys a = tt
  given-left n (x ∷ xs) ys a = (a.0, given-left n xs ys a.1)

  pub given-right : (n : ℕ) (xs ys : List (Marked E)) → HaveMarksUpTo n (xs ++ ys) → HaveMarksUpTo n ys
  given-right n [] ys a = a
  given-right n (x ∷ xs) ys a = given-right n xs ys a.1

module _ {E L : Type 0} where
  pub busy_waiting : (l : List (View E L)) (i : ℕ) (v : View E L) → get_elem? l i ≡ some v → busy v.stage ≤ waiting l
  busy_waiting [] i v e = absurd (some-ne-none v (sym e))
  busy_waiting (x ∷ xs) zero v e = let is : busy x.stage ≡ busy v.stage = ap (λ (m : View E L). busy m.stage) (some-injective x v e) in omega arith
  busy_waiting (x ∷ xs) (suc i) v e = let r = busy_waiting xs i v e in omega arith

  pub none_waiting : (l : List (View E L)) → ((i : ℕ) (v : View E L) → get_elem? l i ≡ some v → busy v.stage ≡ 0) → waiting l ≡ 0
  none_waiting [] h = refl
  none_waiting (x ∷ xs) h = let a = h 0 x refl in let b = none_waiting xs (λ i v e. h (suc i) v e) in omega arith

  pub waiting-snoc : (l : List (View E L)) (v : View E L) → waiting (l ++ v ∷ []) ≡ waiting l + busy v.stage
  waiting-snoc [] v = omega arith
  waiting-snoc (x ∷ xs) v = let r = waiting-snoc xs v in omega arith

  pub living-snoc : (l : List (View E L)) (v : View E L) → living (l ++ v ∷ []) ≡ living l + alive v.stage
  living-snoc [] v = omega arith
  living-snoc (x ∷ xs) v = let r = living-snoc xs v in omega arith

  pub waiting-set : (l : List (View E L)) (i : ℕ) (v w : View E L) → get_elem? l i ≡ some v → waiting (set l i w) + busy v.stage ≡ waiting l + busy w.stage
  waiting-set [] i v w e = absurd (some-ne-none v (sym e))
  waiting-set (x ∷ xs) zero v w e = let is : busy x.stage ≡ busy v.stage = ap (λ (m : View E L). busy m.stage) (some-injective x v e) in omega arith
  waiting-set (x ∷ xs) (suc i) v w e = let r = waiting-set xs i v w e in omega arith

  pub living-set : (l : List (View E L)) (i : ℕ) (v w : View E L) → get_elem? l i ≡ some v → living (set l i w) + alive v.stage ≡ living l + alive w.stage
  living-set [] i v w e = absurd (some-ne-none v (sym e))
  living-set (x ∷ xs) zero v w e = let is : alive x.stage ≡ alive v.stage = ap (λ (m : View E L). alive m.stage) (some-injective x v e) in omega arith
  living-set (x ∷ xs) (suc i) v w e = let r = living-set xs i v w e in omega arith

  pub waiting_living : (l : List (View E L)) → waiting l ≤ living l
  waiting_living [] = omega arith
  waiting_living (x ∷ xs) = let a = busy_alive x.stage in let b = waiting_living xs in omega arith

  -- who holds the slot has the turn that is served
  pub holder_turn : (drawn served : ℕ) (log : List (Marked E)) (v : View E L) (st : Stage E) → Holds st → Knows drawn served log v st → HasTurn served st
  holder_turn drawn served log v st h k = grind (arith, common_steps)

  -- each turn that is out was drawn
  pub turn_drawn : (drawn served : ℕ) (log : List (Marked E)) (v : View E L) (t : ℕ) (st : Stage E) → HasTurn t st → Knows drawn served log v st → t < drawn
  turn_drawn drawn served log v t st h k = grind (arith, common_steps)

  -- one more turn is drawn
  pub knows_drawn : (drawn served : ℕ) (log : List (Marked E)) (v : View E L) (st : Stage E) → Knows drawn served log v st → Knows (drawn + 1) served log v st
  knows_drawn drawn served log v st k = grind (arith, common_steps)

  -- the next turn is served: no other pass has this one
  pub knows_served : (drawn served : ℕ) (log : List (Marked E)) (v : View E L) (st : Stage E) → ¬ HasTurn served st → Knows drawn served log v st → Knows drawn (served + 1) log v st
  knows_served drawn served log v st n k = grind (arith, common_steps)

  -- the history gets an entry whose mark is none of this pass, which has not the turn
  pub knows_longer : (drawn served : ℕ) (log : List (Marked E)) (e : E) (m : ℕ) (v : View E L) (st : Stage E) → ¬ HasTurn served st → (alive st ≡ 1 → IsNoneOf m (v.mark ∷ v.joined))
      → Knows drawn served log v st → Knows drawn served (log ++ marked e (Some m) ∷ []) v st
  knows_longer drawn served log e m v st n free k = grind (arith, common_steps, follows_more)
