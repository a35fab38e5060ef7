-- A split, a join, the meeting after it and the close keep the rule of a lock, or rest on it.
use Rattle.std.proofs.Common.{◌≡◌, ℕ, ◌+◌, ◌%◌, ◌^◌, ◌<◌, ◌≤◌, ◌≢◌, ◌⊎◌, List, [], ◌∷◌, ◌++◌, length, get_or, set, sym, refl, ap, ◌∙◌, subst, inl, inr, ⊎_elim, arith}
use Rattle.std.{specs.Prelude.{Option, Some}, proofs.lemmas.Grind.common_steps}
use mathlib.Core.{Logic.dite, Option.{none, some, some-injective}, List.append-nil}
use native.Mathlib.Decide.{ℕ_discrete}
use lib.ListN.{get_elem?}
use lib.Seq.{set-get_or}
use Rattle.atomic_table.{specs.Table.{step, keeps, Allows, Splits, Joins, Final, Seen}, proofs.Lists.{set_here, set_else, at_longer, one_turn}}
use Rattle.history_lock.specs.declared.view.{View.View, Marked.Marked, Stage.TheVariants.{Outside, Inside, Meeting}}
use Rattle.history_lock.specs.Rule.{busy, alive, HasTurn, Holds, seeing, waiting, Sees, Knows, IsBadge, split_left, split_right, join_both, spent_view, IsWholeView, LockState, Kept}
use Rattle.history_lock.specs.Marks.{AreBy, AreByOthers, Follows, HaveMarksUpTo, IsLongerOf, IsNoneOf, IsOtherMark, entries}
use Rattle.history_lock.specs.Steps.{Sat, met, heard, last_joined, joined_before, recalled}
use Rattle.history_lock.proofs.Seats.{at_get, within, seats_stay, pairs_stay, seats_snoc, pairs_snoc, waiting-set, living-set, waiting-snoc, living-snoc, busy_waiting, none_waiting, alive_or_idle, holds_busy, clean_new, given_more, given-left, given-right, longer_of}
use Rattle.history_lock.proofs.Keeps.{unmoved, with_views, few_waiting, slot_stays, moved, is_given}

module _ {S E L : Type 0} (history : S → List E) (label : S → L) (name : L) where
  first_is : (s : LockState S E L) (r : Kept history label name s) (id : ℕ) (v : View E L) → get_elem? s.views id ≡ some v → alive v.stage ≡ 1 → v.mark ≡ 0 → (id ≡ 0) × (r.marks.first ≡ v)
  first_is s r id v at lives mark = grind (arith, common_steps)

  pub recalls : (slots id : ℕ) (me : Sat S E L) → me.0.mark ≡ 0 → me.0.stage ≡ Outside → Allows (Kept history label name) slots id me 0 (λ n. n) (recalled (step slots 0 0 0 none) me)
  recalls slots id me mark out s r _ at small = let v : View E L = me.0 in let is = first_is s r id v at (ap alive out) mark in let known : Sees r.log v = subst (Knows r.drawn r.served r.log v) out (r.turns.each id v at) in
      (v, keeps, tt, unmoved history label name s r 0 id v me.1 at, (refl, given-left v.given v.seen known.0 (subst (HaveMarksUpTo v.given) known.1 (subst (λ (z : View E L). HaveMarksUpTo z.given r.log) is.1 r.marks.given_marks))))

  pub splits : (id : ℕ) (v : View E L) → v.mark ≡ 0 → v.stage ≡ Outside → v.given + 2 < 2 ^ 64 → Splits (Kept history label name) id v (split_left v) (split_right v)
  splits id v mark out room s r at = let lives : alive v.stage ≡ 1 = ap alive out in let is = first_is s r id v at lives mark in let w : View E L = split_left v in let u : View E L = split_right v in let vs : List (View E L) = set s.views id w in
      let given : r.marks.first.given ≡ v.given = ap (λ (z : View E L). z.given) is.1 in let joined : r.marks.first.joined ≡ v.joined = ap (λ (z : View E L). z.joined) is.1 in
      let sum = waiting-set s.views id v w at in let sum' = waiting-snoc vs u in let turns = r.turns.balance in let lives_in = living-set s.views id v w at in let lives_in' = living-snoc vs u in let census = r.marks.census in let joins : length r.marks.first.joined ≡ length v.joined = ap length joined in
      let known : Sees r.log v = subst (Knows r.drawn r.served r.log v) out (r.turns.each id v at) in
      let past : HaveMarksUpTo r.marks.first.given known.0 = given-right r.marks.first.given v.seen known.0 (subst (HaveMarksUpTo r.marks.first.given) known.1 r.marks.given_marks) in
      let here : get_elem? vs 0 ≡ some w = subst (λ (z : ℕ). get_elem? (set s.views id w) z ≡ some w) is.0 (set_here s.views id w (within s.views id v at)) in
      let slot = slot_stays history label name s r id v w at (λ h. h) (λ h. h) in
      let low : (j : ℕ) (d : View E L) → get_elem? vs j ≡ some d → alive d.stage ≡ 1 → d.mark ≤ v.given = seats_stay (λ j d. alive d.stage ≡ 1 → d.mark ≤ v.given) s.views id w (λ _. omega arith)
      (λ j d _ there lives'. let a = is_given history label name s r j d there lives' in omega arith) in
      let from_before = λ (j : ℕ) (d : View E L) (there : get_elem? s.views j ≡ some d) (away : j ≢ 0) (lives' : alive d.stage ≡ 1). subst (λ (z : View E L). IsBadge z d) is.1 (r.marks.badges j d there away lives') in with_views history label name s r (vs ++ u ∷ [])
      record {
        balance = omega arith;
        each = seats_snoc (λ j d. Knows r.drawn r.served r.log d d.stage) vs u
            (known.0, known.1, clean_new r.marks.first.given (v.given + 1) (v.mark ∷ v.joined) known.0 (omega arith) past known.2)
            (seats_stay (λ j d. Knows r.drawn r.served r.log d d.stage) s.views id w (r.turns.each id v at) (λ j d _ there. r.turns.each j d there));
        named = seats_snoc (λ j d. alive d.stage ≡ 1 → d.label ≡ Some name) vs u (λ _. r.turns.named id v at lives)
            (seats_stay (λ j d. alive d.stage ≡ 1 → d.label ≡ Some name) s.views id w (r.turns.named id v at) (λ j d _ there. r.turns.named j d there));
        apart = λ t. pairs_snoc (λ i j x y. HasTurn t x.stage → HasTurn t y.stage → i ≡ j) vs u
            (pairs_stay (λ i j x y. HasTurn t x.stage → HasTurn t y.stage → i ≡ j) s.views id w (λ i j x y p q. r.turns.apart t i j x y p q)
            (λ j d _ there h k. r.turns.apart t id j v d at there h k) (λ j d _ there k h. r.turns.apart t j id d v there at k h) (λ _ _. refl))
            (λ j b _ h. absurd h) (λ i a _ _ h. absurd h) (λ h. absurd h);
      }
      (⊎_elim
      (λ h. inl (h.0, h.1, h.2, h.3, seats_snoc (λ j d. ¬ (Holds d.stage)) vs u (λ k. absurd k) h.4))
      (λ h. let o = h.1 in inr (h.0, (o.0, o.1, at_longer vs (u ∷ []) o.0 o.1 o.2, o.3))) slot)
      record {
        first = w;
        first_here = at_longer vs (u ∷ []) 0 w here;
        first_lives = lives;
        first_mark = mark;
        badges = seats_snoc (λ j d. j ≢ 0 → alive d.stage ≡ 1 → IsBadge w d) vs u
            (λ _ _. (omega arith, omega arith, subst (IsNoneOf (v.given + 1)) joined (r.marks.joined_given (v.given + 1) (omega arith)), refl))
            (seats_stay (λ j d. j ≢ 0 → alive d.stage ≡ 1 → IsBadge w d) s.views id w (λ away. absurd (away is.0))
            (λ j d _ there away lives'. let b = from_before j d there away lives' in let c = b.1 in (b.0, omega arith, b.2, b.3)));
        own_marks = pairs_snoc (λ i j x y. alive x.stage ≡ 1 → alive y.stage ≡ 1 → x.mark ≡ y.mark → i ≡ j) vs u
            (pairs_stay (λ i j x y. alive x.stage ≡ 1 → alive y.stage ≡ 1 → x.mark ≡ y.mark → i ≡ j) s.views id w (λ i j x y p q. r.marks.own_marks i j x y p q)
            (λ j d _ there a b e. r.marks.own_marks id j v d at there a b e) (λ j d _ there a b e. r.marks.own_marks j id d v there at a b e) (λ _ _ _. refl))
            (λ j b there _ lives' e. let a = low j b there lives' in absurd (omega arith)) (λ i a there lives' _ e. let b = low i a there lives' in absurd (omega arith)) (λ _ _ _. refl);
        census = omega arith;
        few = omega arith;
        joined_given = λ m less. subst (IsNoneOf m) joined (r.marks.joined_given m (omega arith));
        given_marks = given_more r.marks.first.given (v.given + 1) r.log (omega arith) r.marks.given_marks;
      }

  pub joins : (id : ℕ) (v : View E L) (other : ℕ) (w : View E L) → v.mark ≡ 0 → v.stage ≡ Outside → w.stage ≡ Outside → Joins (Kept history label name) id v other w (join_both v w) spent_view
  joins id v other w mark out out' s r at apart there' = let lives : alive v.stage ≡ 1 = ap alive out in let lives' : alive w.stage ≡ 1 = ap alive out' in let is = first_is s r id v at lives mark in let f : View E L = join_both v w in let u : View E L = spent_view in let vs : List (View E L) = set s.views id f in
      let at' : get_elem? s.views other ≡ some w = sym (set_else s.views id other f apart) ∙ there' in
      let given : r.marks.first.given ≡ v.given = ap (λ (z : View E L). z.given) is.1 in let joined : r.marks.first.joined ≡ v.joined = ap (λ (z : View E L). z.joined) is.1 in let joins : length r.marks.first.joined ≡ length v.joined = ap length joined in
      let sum = waiting-set s.views id v f at in let sum' = waiting-set vs other w u there' in let turns = r.turns.balance in let lives_in = living-set s.views id v f at in let lives_in' = living-set vs other w u there' in let census = r.marks.census in
      let free : busy v.stage ≡ 0 = ap busy out in let free' : busy w.stage ≡ 0 = ap busy out' in
      let known : Sees r.log v = subst (Knows r.drawn r.served r.log v) out (r.turns.each id v at) in let known' : Sees r.log w = subst (Knows r.drawn r.served r.log w) out' (r.turns.each other w at') in
      let elsewhere : other ≢ 0 = λ e. apart (e ∙ sym is.0) in
      let badge : IsBadge v w = subst (λ (z : View E L). IsBadge z w) is.1 (r.marks.badges other w at' elsewhere lives') in
      let low : w.mark ≤ v.given = badge.1 in
      let here : get_elem? vs 0 ≡ some f = subst (λ (z : ℕ). get_elem? (set s.views id f) z ≡ some f) is.0 (set_here s.views id f (within s.views id v at)) in
      let slot = slot_stays history label name s r id v f at (λ h. absurd h) (λ h. absurd (subst Holds out h)) in with_views history label name s r (set vs other u)
      record {
        balance = omega arith;
        each = seats_stay (λ j d. Knows r.drawn r.served r.log d d.stage) vs other u tt
            (λ j d _ there. seats_stay (λ j d. Knows r.drawn r.served r.log d d.stage) s.views id f
            (w.mark, v.joined, refl, known, subst (λ (l : List ℕ). Follows (w.mark ∷ l) w.seen r.log) badge.3 known') (λ j d _ there. r.turns.each j d there) j d there);
        named = seats_stay (λ j d. alive d.stage ≡ 1 → d.label ≡ Some name) vs other u (λ e. absurd (omega arith))
            (λ j d _ there. seats_stay (λ j d. alive d.stage ≡ 1 → d.label ≡ Some name) s.views id f (λ _. r.turns.named id v at lives) (λ j d _ there. r.turns.named j d there) j d there);
        apart = λ t. pairs_stay (λ i j x y. HasTurn t x.stage → HasTurn t y.stage → i ≡ j) vs other u
            (pairs_stay (λ i j x y. HasTurn t x.stage → HasTurn t y.stage → i ≡ j) s.views id f (λ i j x y p q. r.turns.apart t i j x y p q)
            (λ j d _ there h k. absurd h) (λ j d _ there k h. absurd h) (λ _ _. refl))
            (λ j d _ _ h. absurd h) (λ i a _ _ _ h. absurd h) (λ _ _. refl);
      }
      (⊎_elim
      (λ h. inl (h.0, h.1, h.2, h.3, seats_stay (λ j d. ¬ (Holds d.stage)) vs other u (λ k. absurd k) (λ j d _ there. h.4 j d there)))
      (λ h. let o = h.1 in inr (h.0, (o.0, o.1, set_else vs other o.0 u (λ e. subst Holds out' (subst (λ (z : View E L). Holds z.stage) (some-injective o.1 w (sym o.2 ∙ (ap (get_elem? vs) e ∙ there'))) o.3)) ∙ o.2, o.3))) slot)
      record {
        first = f;
        first_here = set_else vs other 0 u (λ e. elsewhere (sym e)) ∙ here;
        first_lives = refl;
        first_mark = mark;
        badges = seats_stay (λ j d. j ≢ 0 → alive d.stage ≡ 1 → IsBadge f d) vs other u (λ _ e. absurd (omega arith))
            (λ j d away_other there. seats_stay (λ j d. j ≢ other → j ≢ 0 → alive d.stage ≡ 1 → IsBadge f d) s.views id f (λ _ away. absurd (away is.0))
            (λ j d _ there not_other away lives''. let b : IsBadge v d = subst (λ (z : View E L). IsBadge z d) is.1 (r.marks.badges j d there away lives'') in
            (b.0, b.1, ((λ e. not_other (r.marks.own_marks j other d w there at' lives'' lives' e)), b.2), b.3)) j d there away_other);
        own_marks = pairs_stay (λ i j x y. alive x.stage ≡ 1 → alive y.stage ≡ 1 → x.mark ≡ y.mark → i ≡ j) vs other u
            (pairs_stay (λ i j x y. alive x.stage ≡ 1 → alive y.stage ≡ 1 → x.mark ≡ y.mark → i ≡ j) s.views id f (λ i j x y p q. r.marks.own_marks i j x y p q)
            (λ j d _ there a b e. r.marks.own_marks id j v d at there lives b e) (λ j d _ there a b e. r.marks.own_marks j id d v there at a lives e) (λ _ _ _. refl))
            (λ j d _ _ e. absurd (omega arith)) (λ i a _ _ _ e. absurd (omega arith)) (λ _ _ _. refl);
        census = omega arith;
        few = subst (λ (z : ℕ). z + 1 < 2 ^ 64) given r.marks.few;
        joined_given = λ m less. ((λ e. absurd (omega arith)), subst (IsNoneOf m) joined (r.marks.joined_given m (omega arith)));
        given_marks = subst (λ (z : ℕ). HaveMarksUpTo z r.log) given r.marks.given_marks;
      }

  pub meets : (slots id : ℕ) (me : Sat S E L) (ys : List (Marked E)) → me.0.stage ≡ Meeting ys → Allows (Kept history label name) slots id me 0 (λ n. n) (met (step slots 0 0 0 none) me)
  meets slots id me ys is s r _ at small = let v : View E L = me.0 in let x : ℕ = get_or s.words 0 0 in let known = subst (Knows r.drawn r.served r.log v) is (r.turns.each id v at) in
      let l = longer_of r.log v.seen ys v.mark known.0 known.1 known.3 known.4 in let w : View E L = seeing v Outside l.0 in let joined : v.joined ≡ known.0 ∷ known.1 = known.2 in (
        w,
        keeps,
        tt,
        moved history label name s r 0 x id v me.1 keeps Outside l.0 r.log r.drawn r.served at (sym (ap alive is))
            (ap (λ l. get_or l 0 0) (set-get_or s.words 0 0) ∙ r.words.count_is, ap (λ l. get_or l 1 0) (set-get_or s.words 0 0) ∙ r.words.ticket_is, ap (λ l. get_or l 2 0) (set-get_or s.words 0 0) ∙ r.words.serving_is)
            (let b : busy v.stage ≡ 0 = ap busy is in omega arith)
            (subst (λ (m : List ℕ). Follows (v.mark ∷ m) l.0 r.log) (sym joined) l.2)
            (λ j d _ _ k. k)
            (λ u h. absurd h)
            (slot_stays history label name s r id v w at (λ h. absurd h) (λ h. absurd (subst Holds is h)))
            r.marks.given_marks,
        (
          l.0,
          refl,
          subst (λ (z : List ℕ × List (Marked E)). IsLongerOf (v.mark ∷ joined_before z.0) v.seen (last_joined z.0 ∷ []) z.1 l.0) (λ i. (sym joined i, ap heard (sym is) i)) l.1,
          refl,
        ),
      )

  -- where as many turns were served as drawn, no pass waits or is inside
  served_all : (s : LockState S E L) (r : Kept history label name s) → r.drawn % 2 ^ 64 ≡ r.served % 2 ^ 64 → waiting s.views ≡ 0
  served_all s r e = let turns = r.turns.balance in let few = few_waiting history label name s r in let same = one_turn r.served r.drawn (2 ^ 64) (omega arith) (omega arith) (sym e) in omega arith

  seen_of : (s : LockState S E L) (r : Kept history label name s) (id : ℕ) (v : View E L) → get_elem? s.views id ≡ some v → waiting s.views ≡ 0 → (v.stage ≡ Outside) ⊎ ((u : ℕ) × (v.stage ≡ Inside u)) → Sees r.log v
  seen_of s r id v at idle = grind (arith, common_steps)

  -- no other pass lives where every pass that was split from the first was joined
  pub only_one : (s : LockState S E L) (r : Kept history label name s) (i j : ℕ) (v w : View E L) → get_elem? s.views i ≡ some v → alive v.stage ≡ 1 → IsWholeView v
      → get_elem? s.views j ≡ some w → alive w.stage ≡ 1 → j ≡ i
  only_one s r i j v w at lives whole there lives' = let is = first_is s r i v at lives whole.0 in dite (ℕ_discrete j i) (λ same. same)
      (λ other. let b : IsBadge v w = subst (λ (z : View E L). IsBadge z w) is.1 (r.marks.badges j w there (λ e. other (e ∙ sym is.0)) lives') in absurd (whole.1 w.mark b.0 b.1 b.2))

  -- no pass waits or is inside where the first pass is outside and alone
  whole_alone : (s : LockState S E L) (r : Kept history label name s) (id : ℕ) (v : View E L) → get_elem? s.views id ≡ some v → v.stage ≡ Outside → IsWholeView v → waiting s.views ≡ 0
  whole_alone s r id v at out whole = none_waiting s.views (λ j d there. ⊎_elim
      (λ lives. let same : j ≡ id = only_one s r id j v d at (ap alive out) whole there lives in
      let e : d ≡ v = some-injective d v (sym there ∙ (ap (get_elem? s.views) same ∙ at)) in ap (λ (z : View E L). busy z.stage) e ∙ ap busy out)
      (λ idle. idle) (alive_or_idle d.stage))

  not_both : (n : ℕ) (ms : List ℕ) (by : Option ℕ) → ((m : ℕ) → by ≡ Some m → m ≤ n) → ((k : ℕ) → 0 < k → k ≤ n → ¬ IsNoneOf k ms) → ¬ IsOtherMark (0 ∷ ms) by
  not_both n ms by given whole free = grind (arith, common_steps)

  whole_seen : (n : ℕ) (ms : List ℕ) (rest : List (Marked E)) → HaveMarksUpTo n rest → ((k : ℕ) → 0 < k → k ≤ n → ¬ IsNoneOf k ms) → AreByOthers (0 ∷ ms) rest → rest ≡ []
  whole_seen n ms [] given whole clean = refl
  whole_seen n ms (x ∷ xs) given whole clean = absurd (not_both n ms x.by given.0 whole clean.0)

  own_only : (n : ℕ) (ms : List ℕ) (log : List (Marked E)) → HaveMarksUpTo n log → ((k : ℕ) → 0 < k → k ≤ n → ¬ IsNoneOf k ms) → AreBy (0 ∷ ms) log
  own_only n ms [] given whole = tt
  own_only n ms (x ∷ xs) given whole = ((λ m by away. whole m (let a : m ≢ 0 = away.0 in omega arith) (given.0 m by) away.1), own_only n ms xs given.1 whole)

  all_own : (s : LockState S E L) (r : Kept history label name s) (id : ℕ) (v : View E L) → get_elem? s.views id ≡ some v → alive v.stage ≡ 1 → Sees r.log v → IsWholeView v → AreBy (v.mark ∷ v.joined) v.seen
  all_own s r id v at lives sees whole = let is = first_is s r id v at lives whole.0 in
      let given : HaveMarksUpTo v.given (v.seen ++ sees.0) = subst (HaveMarksUpTo v.given) sees.1 (subst (λ (z : View E L). HaveMarksUpTo z.given r.log) is.1 r.marks.given_marks) in
      subst (λ (z : ℕ). AreBy (z ∷ v.joined) v.seen) (sym whole.0) (own_only v.given v.joined v.seen (given-left v.given v.seen sees.0 given) whole.1)

  all_seen : (s : LockState S E L) (r : Kept history label name s) (id : ℕ) (v : View E L) → get_elem? s.views id ≡ some v → alive v.stage ≡ 1 → Sees r.log v → IsWholeView v → r.log ≡ v.seen
  all_seen s r id v at lives sees whole = let is = first_is s r id v at lives whole.0 in
      let given : HaveMarksUpTo v.given (v.seen ++ sees.0) = subst (HaveMarksUpTo v.given) sees.1 (subst (λ (z : View E L). HaveMarksUpTo z.given r.log) is.1 r.marks.given_marks) in
      let none_more : sees.0 ≡ [] = whole_seen v.given v.joined sees.0 (given-right v.given v.seen sees.0 given) whole.1 (subst (λ (z : ℕ). AreByOthers (z ∷ v.joined) sees.0) whole.0 sees.2) in
      sees.1 ∙ (ap (λ l. v.seen ++ l) none_more ∙ append-nil v.seen)

  pub closes : (ws : List ℕ) (xs : List (Option S)) (id : ℕ) (v : View E L) (t n : ℕ) (x : Option S) → Final (Seen (Kept history label name) id v) ws xs → (v.stage ≡ Outside) ⊎ ((u : ℕ) × (v.stage ≡ Inside u))
      → get_elem? ws 1 ≡ some t → get_elem? ws 2 ≡ some n → t ≡ n → get_elem? xs 0 ≡ some x
      → (y : S) × (x ≡ Some y) × (v.label ≡ Some (label y)) × ((log : List (Marked E)) × Follows (v.mark ∷ v.joined) v.seen log × (history y ≡ entries log)) × (IsWholeView v → (history y ≡ entries v.seen) × AreBy (v.mark ∷ v.joined) v.seen)
  closes ws xs id v t n x end where_is at_t at_n same at_x = let s : LockState S E L = end.0 in let r : Kept history label name s = end.1.0 in let at = end.1.1 in let words : s.words ≡ ws = end.2 in
      let drawn : r.drawn % 2 ^ 64 ≡ t = sym r.words.ticket_is ∙ (ap (λ l. get_or l 1 0) words ∙ at_get ws 1 t 0 at_t) in let served : r.served % 2 ^ 64 ≡ n = sym r.words.serving_is ∙ (ap (λ l. get_or l 2 0) words ∙ at_get ws 2 n 0 at_n) in
      let idle = served_all s r (drawn ∙ (same ∙ sym served)) in let sees = seen_of s r id v at idle where_is in
      let lives : alive v.stage ≡ 1 = ⊎_elim (λ out. ap alive out) (λ inside. ap alive inside.1) where_is in ⊎_elim
      (λ h. (
        h.0,
        some-injective x (Some h.0) (sym at_x ∙ end.4 0 (Some h.0) h.1),
        r.turns.named id v at lives ∙ ap (λ (z : L). Some z) (sym h.3),
        (r.log, sees, h.2),
        λ whole. (h.2 ∙ ap entries (all_seen s r id v at lives sees whole), all_own s r id v at lives sees whole),
      ))
      (λ h. let o = h.1 in let b = busy_waiting s.views o.0 o.1 o.2 in let c = holds_busy o.1.stage o.3 in absurd (omega arith))
      r.slot

  pub closes_whole : (ws : List ℕ) (xs : List (Option S)) (id : ℕ) (v : View E L) (t n : ℕ) → Final (Seen (Kept history label name) id v) ws xs → v.stage ≡ Outside → IsWholeView v → get_elem? ws 1 ≡ some t → get_elem? ws 2 ≡ some n → t ≡ n
  closes_whole ws xs id v t n end out whole at_t at_n = grind (arith, common_steps, history, label, name, get_or, at_get, whole_alone)

  -- a turn is out where the pass that closes is inside
  pub closes_inside : (ws : List ℕ) (xs : List (Option S)) (id : ℕ) (v : View E L) (t n : ℕ) → Final (Seen (Kept history label name) id v) ws xs → ((u : ℕ) × (v.stage ≡ Inside u)) → get_elem? ws 1 ≡ some t → get_elem? ws 2 ≡ some n → t ≢ n
  closes_inside ws xs id v t n end inside at_t at_n same = grind (arith, common_steps, history, label, name, get_or, at_get, served_all, busy_waiting)
