-- Each step of a lock keeps its rule.
use Rattle.std.proofs.Common.{◌≡◌, ℕ, ◌+◌, ◌%◌, ◌^◌, ◌<◌, ◌≤◌, ◌≢◌, List, [], ◌∷◌, ◌++◌, length, get_or, set, sym, refl, ap, ◌∙◌, subst, inl, inr, ⊎_elim, arith, length-append, get_or-set_other, get_or-set_same}
use Rattle.std.{specs.Prelude.{Option, Some}, proofs.lemmas.Grind.common_steps}
use mathlib.Core.{Logic.dite, Option.{none, some, some-injective}}
use native.Mathlib.Decide.{ℕ_discrete}
use lib.ListN.{get_elem?}
use lib.Seq.{set-get_or}
use lib.Dec.{eqb}
use prog.Atomic.{either}
use Rattle.atomic_table.specs.Table.{Act, step, keeps, takes, gives, stepped, homes_after, carried_after, opening, Allows, Valid}
use Rattle.atomic_table.proofs.Lists.{exchanged, set_again, set_here, set_else, one_turn}
use Rattle.history_lock.specs.declared.view.{View.View, Marked.Marked, Stage.Stage, Stage.TheVariants.{Outside, Waiting, Turn, Inside}}
use Rattle.history_lock.specs.Rule.{busy, alive, HasTurn, Holds, turn_of, listed, first_view, at_stage, seeing, waiting, Sees, Knows, IsBadge, LockState, KeptTurns, KeptMarks, KeptSlot, Kept}
use Rattle.history_lock.specs.Marks.{Follows, HaveMarksUpTo, IsNoneOf, entries, marked, unmarked}
use Rattle.history_lock.specs.Steps.{Sat, in_slot, drew, drew_if_free, looked, read_count, counted, passed_on}
use Rattle.history_lock.proofs.Seats.{number, none_some, some_same, only, within, seats_stay, pairs_stay, waiting-set, living-set, waiting_living, holder_turn, turn_drawn, knows_drawn, knows_served, knows_longer, follows_all, given-append}

entries_unmarked : {E : Type 0} (es : List E) → es ≡ entries (unmarked es)
entries_unmarked [] = refl
entries_unmarked (e ∷ es) = ap (λ l. e ∷ l) (entries_unmarked es)

given-unmarked : {E : Type 0} (es : List E) → HaveMarksUpTo 0 (unmarked es)
given-unmarked [] = tt
given-unmarked (e ∷ es) = ((λ m is. absurd (none_some is)), given-unmarked es)

module _ {S E L : Type 0} (history : S → List E) (label : S → L) (name : L) where
  -- a step that changes nothing
  pub unmoved : (s : LockState S E L) (r : Kept history label name s) (i id : ℕ) (v : View E L) (c : List (ℕ × Option S)) → get_elem? s.views id ≡ some v → Kept history label name (stepped s i (get_or s.words i 0) id c v keeps)
  unmoved s r i id v c at = subst (λ (z : List ℕ × List (View E L)). Kept history label name record { words = z.0; homes = s.homes; views = z.1 }) (λ k. (sym (set-get_or s.words i 0) k, sym (set_again s.views id v at) k)) r

  -- a step that changes nothing but what the passes know
  pub with_views : (s : LockState S E L) (r : Kept history label name s) (views : List (View E L)) → KeptTurns name r.log r.drawn r.served views → KeptSlot history label name r.log s.homes views
      → KeptMarks r.log views → Kept history label name record { words = s.words; homes = s.homes; views = views }
  with_views s r views turns slot marks = grind (arith, common_steps)

  pub few_waiting : (s : LockState S E L) (r : Kept history label name s) → waiting s.views < 2 ^ 64
  few_waiting s r = let a = waiting_living s.views in let b = r.marks.census in let c = r.marks.few in omega arith

  -- the first view after a step of the seat id, which keeps the marks
  first_after : (s : LockState S E L) (r : Kept history label name s) (id : ℕ) (v : View E L) (st : Stage E) (seen : List (Marked E)) → get_elem? s.views id ≡ some v → alive st ≡ alive v.stage
      → (f : View E L) × (get_elem? (set s.views id (seeing v st seen)) 0 ≡ some f) × (alive f.stage ≡ 1) × (f.mark ≡ 0) × (f.given ≡ r.marks.first.given) × (f.joined ≡ r.marks.first.joined)
  first_after s r id v st seen at same = dite (ℕ_discrete id 0)
      (λ is. let here : get_elem? s.views 0 ≡ some v = subst (λ (z : ℕ). get_elem? s.views z ≡ some v) is at in
      let e : r.marks.first ≡ v = some-injective r.marks.first v (sym r.marks.first_here ∙ here) in
      let inside : get_elem? (set s.views 0 (seeing v st seen)) 0 ≡ some (seeing v st seen) = set_here s.views 0 (seeing v st seen) (within s.views 0 v here) in
      (seeing v st seen, subst (λ (z : ℕ). get_elem? (set s.views z (seeing v st seen)) 0 ≡ some (seeing v st seen)) (sym is) inside, same ∙ (ap (λ (z : View E L). alive z.stage) (sym e) ∙ r.marks.first_lives), ap (λ (z : View E L). z.mark) (sym e) ∙ r.marks.first_mark, ap (λ (z : View E L). z.given) (sym e), ap (λ (z : View E L). z.joined) (sym e)))
      (λ other. (r.marks.first, set_else s.views id 0 (seeing v st seen) (λ e. other (sym e)) ∙ r.marks.first_here, r.marks.first_lives, r.marks.first_mark, refl, refl))

  -- a step of the seat id, which keeps the marks and the label
  pub moved : (s : LockState S E L) (r : Kept history label name s) (i n id : ℕ) (v : View E L) (c : List (ℕ × Option S)) (a : Act (Option S)) (st : Stage E) (seen log : List (Marked E)) (drawn served : ℕ)
      → get_elem? s.views id ≡ some v
      → alive st ≡ alive v.stage
      → (get_or (set s.words i n) 0 0 ≡ length log) × (get_or (set s.words i n) 1 0 ≡ drawn % 2 ^ 64) × (get_or (set s.words i n) 2 0 ≡ served % 2 ^ 64)
      → drawn + r.served + busy v.stage ≡ r.drawn + served + busy st
      → Knows drawn served log (seeing v st seen) st
      → ((j : ℕ) (d : View E L) → j ≢ id → get_elem? s.views j ≡ some d → Knows r.drawn r.served r.log d d.stage → Knows drawn served log d d.stage)
      → ((t : ℕ) → HasTurn t st → (j : ℕ) (d : View E L) → j ≢ id → get_elem? s.views j ≡ some d → ¬ HasTurn t d.stage)
      → KeptSlot history label name log (homes_after s.homes c a) (set s.views id (seeing v st seen))
      → HaveMarksUpTo r.marks.first.given log
      → Kept history label name (stepped s i n id c (seeing v st seen) a)
  moved s r i n id v c a st seen log drawn served at same words count mine others fresh slot given = let w : View E L = seeing v st seen in let f = first_after s r id v st seen at same in
      let sum = waiting-set s.views id v w at in let lives = living-set s.views id v w at in let before = r.turns.balance in let census = r.marks.census in record {
        log = log;
        drawn = drawn;
        served = served;
        words = grind (arith, common_steps);
        turns = record {
          balance = omega arith;
          each = seats_stay (λ j d. Knows drawn served log d d.stage) s.views id w mine (λ j d apart there. others j d apart there (r.turns.each j d there));
          named = seats_stay (λ j d. alive d.stage ≡ 1 → d.label ≡ Some name) s.views id w (λ lives. r.turns.named id v at (sym same ∙ lives)) (λ j d _ there. r.turns.named j d there);
          apart = λ t. pairs_stay (λ i j x y. HasTurn t x.stage → HasTurn t y.stage → i ≡ j) s.views id w (λ i j x y p q. r.turns.apart t i j x y p q)
              (λ j d apart there h k. absurd (fresh t h j d apart there k)) (λ j d apart there k h. absurd (fresh t h j d apart there k)) (λ _ _. refl);
        };
        slot = slot;
        marks = record {
          first = f.0;
          first_here = f.1;
          first_lives = f.2;
          first_mark = f.3;
          badges = seats_stay (λ j d. j ≢ 0 → alive d.stage ≡ 1 → IsBadge f.0 d) s.views id w
              (λ away lives. subst (λ (z : ℕ × List ℕ). (0 < v.mark) × (v.mark ≤ z.0) × IsNoneOf v.mark z.1 × (v.joined ≡ [])) (λ k. (sym f.4 k, sym f.5 k)) (r.marks.badges id v at away (sym same ∙ lives)))
              (λ j d _ there away lives. subst (λ (z : ℕ × List ℕ). (0 < d.mark) × (d.mark ≤ z.0) × IsNoneOf d.mark z.1 × (d.joined ≡ [])) (λ k. (sym f.4 k, sym f.5 k)) (r.marks.badges j d there away lives));
          own_marks = pairs_stay (λ i j x y. alive x.stage ≡ 1 → alive y.stage ≡ 1 → x.mark ≡ y.mark → i ≡ j) s.views id w (λ i j x y p q. r.marks.own_marks i j x y p q)
              (λ j d _ there a b e. r.marks.own_marks id j v d at there (sym same ∙ a) b e) (λ j d _ there a b e. r.marks.own_marks j id d v there at a (sym same ∙ b) e) (λ _ _ _. refl);
          census = let g : f.0.given ≡ r.marks.first.given = f.4 in let h : length f.0.joined ≡ length r.marks.first.joined = ap length f.5 in omega arith;
          few = subst (λ (z : ℕ). z + 1 < 2 ^ 64) (sym f.4) r.marks.few;
          joined_given = subst (λ (z : ℕ × List ℕ). (m : ℕ) → z.0 < m → IsNoneOf m z.1) (λ k. (sym f.4 k, sym f.5 k)) r.marks.joined_given;
          given_marks = subst (λ (z : ℕ). HaveMarksUpTo z log) (sym f.4) given;
        };
      }

  -- the slot where its holders stay the same, and no seat begins to hold it
  pub slot_stays : (s : LockState S E L) (r : Kept history label name s) (id : ℕ) (v w : View E L) → get_elem? s.views id ≡ some v → (Holds w.stage → Holds v.stage) → (Holds v.stage → Holds w.stage) → KeptSlot history label name r.log s.homes (set s.views id w)
  slot_stays s r id v w at back forth = ⊎_elim
      (λ h. inl (h.0, h.1, h.2, h.3, seats_stay (λ j d. ¬ (Holds d.stage)) s.views id w (λ k. h.4 id v at (back k)) (λ j d _ there. h.4 j d there)))
      (λ h. let o = h.1 in inr (
        h.0,
        dite (ℕ_discrete o.0 id)
            (λ is. (id, w, set_here s.views id w (within s.views id v at), forth (subst (λ (z : View E L). Holds z.stage) (some-injective o.1 v (sym o.2 ∙ (ap (get_elem? s.views) is ∙ at))) o.3)))
            (λ other. (o.0, o.1, set_else s.views id o.0 w other ∙ o.2, o.3)),
      ))
      r.slot

  pub draws : (slots id : ℕ) (me : Sat S E L) → me.0.stage ≡ Outside → Allows (Kept history label name) slots id me 1 (λ n. (n + 1) % 2 ^ 64) (drew (step slots 1 1 0 none) me)
  draws slots id me out s r _ at small = let v : View E L = me.0 in let t : ℕ = r.drawn in let ticket = r.words.ticket_is in let wide = r.words.wide in let x : ℕ = get_or s.words 1 0 in let n : ℕ = (x + 1) % 2 ^ 64 in
      let known : Sees r.log v = subst (Knows r.drawn r.served r.log v) out (r.turns.each id v at) in let sum = r.turns.balance in let free : busy v.stage ≡ 0 = ap busy out in
      let seen_now : t % 2 ^ 64 ≡ x = sym ticket in (
        at_stage v (Waiting t),
        keeps,
        tt,
        moved s r 1 n id v me.1 keeps (Waiting t) v.seen r.log (t + 1) r.served at (sym (ap alive out))
            (get_or-set_other s.words 1 0 n 0 (λ e. omega arith) ∙ r.words.count_is, get_or-set_same s.words 1 n 0 (omega arith) ∙ omega arith, get_or-set_other s.words 1 2 n 0 (λ e. omega arith) ∙ r.words.serving_is)
            (omega arith)
            (omega arith, omega arith, known)
            (λ j d _ _ k. knows_drawn r.drawn r.served r.log d d.stage k)
            (λ u h j d _ there k. let a = turn_drawn r.drawn r.served r.log d u d.stage k (r.turns.each j d there) in let e : t ≡ u = h in absurd (omega arith))
            (slot_stays s r id v (at_stage v (Waiting t)) at (λ h. absurd h) (λ h. absurd (subst Holds out h)))
            r.marks.given_marks,
        (t, refl, seen_now, refl),
      )

  -- the turn is drawn where its number is found
  pub draws_if_free : (slots id : ℕ) (me : Sat S E L) (old new : ℕ) → me.0.stage ≡ Outside → new ≡ (old + 1) % 2 ^ 64
      → Allows (Kept history label name) slots id me 1 (λ n. either (eqb n old) new n) (drew_if_free (step slots 1 old new none) me)
  draws_if_free slots id me old new out next s r one at small = let x : ℕ = get_or s.words 1 0 in exchanged x old new
      (λ (z : ℕ). (w : View E L) × (a : Act (Option S)) × Valid s.homes me.1 a × Kept history label name (stepped s 1 z id me.1 w a) × drew_if_free (step slots 1 old new none) me x (w, carried_after me.1 a))
      (λ hit. let d = draws slots id me out s r one at small in (
        d.0,
        d.1,
        d.2,
        subst (λ (z : ℕ). Kept history label name (stepped s 1 z id me.1 d.0 d.1)) (ap (λ (z : ℕ). (z + 1) % 2 ^ 64) hit ∙ sym next) d.3,
        ((λ _. d.4), λ miss. absurd (miss hit)),
      ))
      (λ miss. (me.0, keeps, tt, unmoved s r 1 id me.0 me.1 at, ((λ hit. absurd (miss hit)), λ _. refl)))

  -- a step on a word of which the rule says nothing
  pub stays_aside : (slots id : ℕ) (me : Sat S E L) (i : ℕ) (f : ℕ → ℕ) → 2 < i → Allows (Kept history label name) slots id me i f (λ r me'. me' ≡ me)
  stays_aside slots id me i f aside s r _ at small = let v : View E L = me.0 in let n : ℕ = f (get_or s.words i 0) in (
    v,
    keeps,
    tt,
    moved s r i n id v me.1 keeps v.stage v.seen r.log r.drawn r.served at refl
        (get_or-set_other s.words i 0 n 0 (λ e. omega arith) ∙ r.words.count_is, get_or-set_other s.words i 1 n 0 (λ e. omega arith) ∙ r.words.ticket_is, get_or-set_other s.words i 2 n 0 (λ e. omega arith) ∙ r.words.serving_is)
        refl
        (r.turns.each id v at)
        (λ j d _ _ k. k)
        (λ u h j d other there k. other (r.turns.apart u j id d v there at k h))
        (slot_stays s r id v v at (λ h. h) (λ h. h))
        r.marks.given_marks,
    refl,
  )

  -- who holds the slot while this seat has the turn that is served is this seat
  pub holder_is : (s : LockState S E L) (r : Kept history label name s) (id : ℕ) (v : View E L) → get_elem? s.views id ≡ some v → HasTurn r.served v.stage → (j : ℕ) (d : View E L) → get_elem? s.views j ≡ some d → Holds d.stage → j ≡ id
  holder_is s r id v at turn j d there holds = r.turns.apart r.served j id d v there at (holder_turn r.drawn r.served r.log d d.stage holds (r.turns.each j d there)) turn

  pub looks : (slots id : ℕ) (me : Sat S E L) (t : ℕ) → slots ≡ 1 → me.0.stage ≡ Waiting t → Allows (Kept history label name) slots id me 2 (λ n. n) (looked history label (step slots 2 0 0 none) me)
  looks slots id me t single is s r one at small = let v : View E L = me.0 in let x : ℕ = get_or s.words 2 0 in let known = subst (Knows r.drawn r.served r.log v) is (r.turns.each id v at) in let named : v.label ≡ Some name = r.turns.named id v at (ap alive is) in
      dite (ℕ_discrete (turn_of v.stage % 2 ^ 64) x)
      (λ hit.
      let same : turn_of v.stage ≡ t = ap turn_of is in let few = few_waiting s r in let sum = r.turns.balance in let low : r.served ≤ t = known.0 in let high : t < r.drawn = known.1 in let serving = r.words.serving_is in
      let served : r.served ≡ t = one_turn r.served t (2 ^ 64) low (omega arith) (sym serving ∙ (sym hit ∙ ap (λ (z : ℕ). z % 2 ^ 64) same)) in
      let turn : HasTurn r.served v.stage = subst (HasTurn r.served) (sym is) (sym served) in
      ⊎_elim
      (λ h. let w : View E L = at_stage v (Turn (turn_of v.stage) (history h.0)) in (
        w,
        takes 0 (Some h.0),
        h.1,
        moved s r 2 x id v me.1 (takes 0 (Some h.0)) (Turn (turn_of v.stage) (history h.0)) v.seen r.log r.drawn r.served at (sym (ap alive is))
            (ap (λ l. get_or l 0 0) (set-get_or s.words 2 0) ∙ r.words.count_is, ap (λ l. get_or l 1 0) (set-get_or s.words 2 0) ∙ r.words.ticket_is, ap (λ l. get_or l 2 0) (set-get_or s.words 2 0) ∙ r.words.serving_is)
            (let b : busy v.stage ≡ 1 = ap busy is in omega arith)
            (same ∙ sym served, omega arith, h.2, known.2)
            (λ j d _ _ k. k)
            (λ u e j d other there k. other (r.turns.apart u j id d v there at k (subst (HasTurn u) (sym is) (sym same ∙ e))))
            (inr (set_here s.homes 0 none (omega arith), (id, w, set_here s.views id w (within s.views id v at), tt)))
            r.marks.given_marks,
        ((λ _. (h.0, refl, named ∙ sym (ap (λ (z : L). Some z) h.3), refl)), λ not. absurd (not hit)),
      ))
      (λ h. let o = h.1 in absurd (subst Holds is (subst (λ (z : View E L). Holds z.stage) (some-injective o.1 v (sym o.2 ∙ (ap (get_elem? s.views) (holder_is s r id v at turn o.0 o.1 o.2 o.3) ∙ at))) o.3)))
      r.slot)
      (λ miss. (v, keeps, tt, unmoved s r 2 id v me.1 at, ((λ hit. absurd (miss hit)), λ _. refl)))

  -- only this seat holds the slot
  pub reads_count : (slots id : ℕ) (me : Sat S E L) (t : ℕ) (es : List E) → me.0.stage ≡ Turn t es → Allows (Kept history label name) slots id me 0 (λ n. n) (read_count (step slots 0 0 0 none) me)
  reads_count slots id me t es is s r _ at small = let v : View E L = me.0 in let x : ℕ = get_or s.words 0 0 in let known = subst (Knows r.drawn r.served r.log v) is (r.turns.each id v at) in let same : turn_of v.stage ≡ t = ap turn_of is in
      let w : View E L = seeing v (Inside (turn_of v.stage)) r.log in let high : t < r.drawn = known.1 in (
        w,
        keeps,
        tt,
        moved s r 0 x id v me.1 keeps (Inside (turn_of v.stage)) r.log r.log r.drawn r.served at (sym (ap alive is))
            (ap (λ l. get_or l 0 0) (set-get_or s.words 0 0) ∙ r.words.count_is, ap (λ l. get_or l 1 0) (set-get_or s.words 0 0) ∙ r.words.ticket_is, ap (λ l. get_or l 2 0) (set-get_or s.words 0 0) ∙ r.words.serving_is)
            (let b : busy v.stage ≡ 1 = ap busy is in omega arith)
            (same ∙ known.0, omega arith, refl)
            (λ j d _ _ k. k)
            (λ u e j d other there k. other (r.turns.apart u j id d v there at k (subst (HasTurn u) (sym is) (sym same ∙ e))))
            (slot_stays s r id v w at (λ _. subst Holds (sym is) tt) (λ _. tt))
            r.marks.given_marks,
        (r.log, refl, known.3, ap listed is ∙ known.2, r.words.count_is, refl),
      )

  -- the mark of one live pass is no mark of another
  foreign : (s : LockState S E L) (r : Kept history label name s) (id : ℕ) (v : View E L) (j : ℕ) (d : View E L) → get_elem? s.views id ≡ some v → get_elem? s.views j ≡ some d → j ≢ id → alive v.stage ≡ 1 → alive d.stage ≡ 1 → IsNoneOf v.mark (d.mark ∷ d.joined)
  foreign s r id v j d at there other lives lives' = grind (arith, common_steps)

  pub is_given : (s : LockState S E L) (r : Kept history label name s) (id : ℕ) (v : View E L) → get_elem? s.views id ≡ some v → alive v.stage ≡ 1 → v.mark ≤ r.marks.first.given
  is_given s r id v at lives = grind (arith, common_steps)

  slot_out : (s : LockState S E L) (r : Kept history label name s) (id : ℕ) (v : View E L) → get_elem? s.views id ≡ some v → Holds v.stage → get_elem? s.homes 0 ≡ some none
  slot_out s r id v at holds = ⊎_elim (λ h. absurd (h.4 id v at holds)) (λ h. h.0) r.slot

  pub counts : (slots id : ℕ) (me : Sat S E L) (t : ℕ) (e : E) → me.0.stage ≡ Inside t → in_slot history me.1 ≡ entries me.0.seen ++ e ∷ [] → length me.0.seen + 1 < 2 ^ 64
      → Allows (Kept history label name) slots id me 0 (λ n. (n + 1) % 2 ^ 64) (counted history (step slots 0 1 0 none) me)
  counts slots id me t e is more room s r _ at small = let v : View E L = me.0 in let x : ℕ = get_or s.words 0 0 in let n : ℕ = (x + 1) % 2 ^ 64 in let known = subst (Knows r.drawn r.served r.log v) is (r.turns.each id v at) in
      let lives : alive v.stage ≡ 1 = ap alive is in let turn : HasTurn r.served v.stage = subst (HasTurn r.served) (sym is) known.0 in let wide = r.words.wide in
      let new : Marked E = marked e (Some v.mark) in let log : List (Marked E) = r.log ++ new ∷ [] in let w : View E L = seeing v v.stage (v.seen ++ new ∷ []) in
      let long : length r.log + 1 < 2 ^ 64 = subst (λ (l : List (Marked E)). length l + 1 < 2 ^ 64) known.2 room in let count = r.words.count_is in
      let holds : Holds v.stage = subst Holds (sym is) tt in (
        w,
        keeps,
        tt,
        moved s r 0 n id v me.1 keeps v.stage (v.seen ++ new ∷ []) log r.drawn r.served at refl
            (get_or-set_same s.words 0 n 0 (omega arith) ∙ omega (arith, length-append r.log (new ∷ [])), get_or-set_other s.words 0 1 n 0 (λ e. omega arith) ∙ r.words.ticket_is, get_or-set_other s.words 0 2 n 0 (λ e. omega arith) ∙ r.words.serving_is)
            refl
            (subst (Knows r.drawn r.served log w) (sym is) (known.0, known.1, ap (λ (l : List (Marked E)). l ++ new ∷ []) known.2))
            (λ j d other there k. knows_longer r.drawn r.served r.log e v.mark d d.stage (λ h. other (r.turns.apart r.served j id d v there at h turn)) (λ lives'. foreign s r id v j d at there other lives lives') k)
            (λ u h j d other there k. other (r.turns.apart u j id d v there at k h))
            (inr (slot_out s r id v at holds, (id, w, set_here s.views id w (within s.views id v at), holds)))
            (given-append r.marks.first.given r.log (new ∷ []) r.marks.given_marks ((λ m is_m. let same : v.mark ≡ m = ap number is_m in let small_mark = is_given s r id v at lives in omega arith), tt)),
        (e, more, refl, refl),
      )

  passes_on_at : (slots id : ℕ) (v : View E L) (y : S) (t : ℕ) → slots ≡ 1 → v.stage ≡ Inside t → history y ≡ entries v.seen → v.label ≡ Some (label y)
      → Allows (Kept history label name) slots id (v, (0, Some y) ∷ []) 2 (λ n. (n + 1) % 2 ^ 64) (passed_on (step slots 2 1 0 none) (v, (0, Some y) ∷ []))
  passes_on_at slots id v y t single is stands labelled s r one at small = let x : ℕ = get_or s.words 2 0 in let n : ℕ = (x + 1) % 2 ^ 64 in let known = subst (Knows r.drawn r.served r.log v) is (r.turns.each id v at) in
      let turn : HasTurn r.served v.stage = subst (HasTurn r.served) (sym is) known.0 in let w : View E L = at_stage v Outside in let serving = r.words.serving_is in let wide = r.words.wide in (
        w,
        gives,
        tt,
        moved s r 2 n id v ((0, Some y) ∷ []) gives Outside v.seen r.log r.drawn (r.served + 1) at (sym (ap alive is))
            (get_or-set_other s.words 2 0 n 0 (λ e. omega arith) ∙ r.words.count_is, get_or-set_other s.words 2 1 n 0 (λ e. omega arith) ∙ r.words.ticket_is, get_or-set_same s.words 2 n 0 (omega arith) ∙ omega arith)
            (let b : busy v.stage ≡ 1 = ap busy is in omega arith)
            (subst (λ (l : List (Marked E)). Follows (v.mark ∷ v.joined) v.seen l) known.2 (follows_all (v.mark ∷ v.joined) v.seen))
            (λ j d other there k. knows_served r.drawn r.served r.log d d.stage (λ h. other (r.turns.apart r.served j id d v there at h turn)) k)
            (λ u h j d other there k. absurd h)
            (inl (
              y,
              set_here s.homes 0 (some (Some y)) (omega arith),
              stands ∙ ap entries known.2,
              some_same (sym labelled ∙ r.turns.named id v at (ap alive is)),
              seats_stay (λ j d. ¬ (Holds d.stage)) s.views id w (λ h. absurd h) (λ j d other there h. other (holder_is s r id v at turn j d there h)),
            ))
            r.marks.given_marks,
        (refl, refl),
      )

  pub passes_on : (slots id : ℕ) (me : Sat S E L) (y : S) (t : ℕ) → slots ≡ 1 → me.0.stage ≡ Inside t → me.1 ≡ (0, Some y) ∷ [] → history y ≡ entries me.0.seen → me.0.label ≡ Some (label y)
      → Allows (Kept history label name) slots id me 2 (λ n. (n + 1) % 2 ^ 64) (passed_on (step slots 2 1 0 none) me)
  passes_on slots id me y t single is carried stands labelled =
      subst (λ (c : List (ℕ × Option S)). Allows (Kept history label name) slots id (me.0, c) 2 (λ n. (n + 1) % 2 ^ 64) (passed_on (step slots 2 1 0 none) (me.0, c))) (sym carried) (passes_on_at slots id me.0 y t single is stands labelled)

  pub opens : (y : S) → label y ≡ name → Kept history label name (opening (length (history y) ∷ 0 ∷ 0 ∷ 0 ∷ 0 ∷ []) (Some y ∷ []) (first_view (history y) (label y)))
  opens y is = let v : View E L = first_view (history y) (label y) in let log : List (Marked E) = unmarked (history y) in record {
    log = log;
    drawn = 0;
    served = 0;
    words = grind (arith, common_steps);
    turns = grind (arith, common_steps);
    slot = inl (y, refl, entries_unmarked (history y), is, λ j d at. subst (λ (z : View E L). ¬ (Holds z.stage)) (only v d j at).1 (λ h. absurd h));
    marks = record {
      first = v;
      first_here = refl;
      first_lives = refl;
      first_mark = refl;
      badges = λ j d at away. absurd (away (only v d j at).0);
      own_marks = λ i j a b at at' _ _ _. (only v a i at).0 ∙ sym (only v b j at').0;
      census = refl;
      few = omega arith;
      joined_given = λ m _. tt;
      given_marks = given-unmarked (history y);
    };
  }

module _ {S E L : Type 0} (history : S → List E) (label : S → L) where
  pub opens_at : (y z : S) (n : ℕ) (xs : List (Option S)) → z ≡ y → n ≡ length (history y) → xs ≡ Some y ∷ []
      → Kept history label (label z) (opening (n ∷ 0 ∷ 0 ∷ 0 ∷ 0 ∷ []) xs (first_view (history z) (label z)))
  opens_at y z n xs e f g = subst (λ (q : S × ℕ × List (Option S)). Kept history label (label q.0) (opening (q.1 ∷ 0 ∷ 0 ∷ 0 ∷ 0 ∷ []) q.2 (first_view (history q.0) (label q.0)))) (λ i. (sym e i, sym f i, sym g i)) (opens history label (label y) y refl)
