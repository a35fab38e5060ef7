-- What a worker's pass has made of the machines of a room, call after call.
use Rattle.std.proofs.Common.{◌≡◌, ◌⊎◌, inl, inr, ℕ, zero, suc, ◌+◌, ◌≤◌, true, false, cond, List, [], ◌∷◌, ◌++◌, length, refl, sym, ap, ap₂, subst, ◌∙◌, Option, Some, None, arith, eq-eqb, ne_eqb}
use Rattle.std.specs.{Prelude.{All, ◌==◌, map, option_map, option_to_list, slice_get, slice_set, unwrap_or}, List.{AllByRecursion, AllZip}}
use Rattle.std.proofs.lemmas.{List.{append-nil, append_assoc, map-append}, Grind.common_steps, List.Elements.{All-append, All-cons, All-nil, All-weaker}}
use Rattle.track_outside.specs.Asked.{Ask, with_ask}
use Rattle.bisect_core.specs.{Bisections.{Bisection, answer_to, asked_by}, declared.outcome.Answered.Answered, declared.outcome.Outcome.Outcome}
use Rattle.bisect_core.specs.declared.outcome.Answered.TheVariants as answered
use Rattle.metric_table.specs.declared.limits.Limit.{Limit}
use Rattle.history_lock.specs.{declared.view.Marked.Marked, Marks.{AreByOthers, IsOtherMark, entries, marked}}
use Rattle.history_model.specs.declared.entries.{Author.Author, Entry.Entry, Placed.Placed}
use Rattle.history_model.specs.{Entries.entries_of, Followed.JobsAreNamed, Jobs.{job_in, jobs}}
use Rattle.track_room.specs.{Settling.{IsPut, IsTaken, entry_said}, Settled.Settled, Work.bare, Question.Question, Asked.ChangesAt}
use Rattle.track_model.specs.Tracks.{Track, with_entry}
use Rattle.track_room.specs.{Sights.{SeesMore, Sight, Visits, own_marks, seeing, track_of}, Taking.{IsQuestion, OfSeen, Settles, seen_of}}
use Rattle.track_room.proofs.Visiting.{stays-sees}
use Rattle.bisect_workers.{specs.Bisecting.{IsDue, RoseBy}, specs.Failures.failures, proofs.Joined.{chosen-append, later-due}, proofs.Staying.question-stays}
use Rattle.worker_model.specs.Findings.{Finding, asked_name, finding_of, named_asked}
use Rattle.bisect_workers.specs.Beside.{BisectsAt, EachBisects, IsBisectedIn, IsByWorker, IsDueIn, Use, asks_of, findings_by, found_at, found_by, given_up, is_given_up, is_number}

-- ---- findings of a pass
findings-append : (mark : ℕ) (h : List Entry) (xs ys : List (Marked Placed)) → findings_by mark h (xs ++ ys) ≡ findings_by mark h xs ++ findings_by mark (h ++ entries_of (entries xs)) ys
findings-append mark h [] ys = ap (λ (x : List Entry). findings_by mark x ys) (sym (append-nil h))
findings-append mark h (x ∷ xs) ys =
    let own : List Finding = cond (is_number mark x.by) (option_to_list (finding_of h x.entry.entry)) [] in
    let h' : List Entry = h ++ x.entry.entry ∷ [] in
    ap (λ (fs : List Finding). own ++ fs)
    (findings-append mark h' xs ys ∙ ap (λ (g : List Entry). findings_by mark h' xs ++ findings_by mark g ys) (append_assoc h (x.entry.entry ∷ []) (entries_of (entries xs))))
    ∙ sym (append_assoc own (findings_by mark h' xs) (findings_by mark (h ++ entries_of (entries (x ∷ xs))) ys))

other-number : (mark : ℕ) (joined : List ℕ) (by : Option ℕ) → IsOtherMark (mark ∷ joined) by → is_number mark by ≡ false
other-number mark joined by other = grind (arith, common_steps)

others-find-none : (mark : ℕ) (joined : List ℕ) (h : List Entry) (xs : List (Marked Placed)) → AreByOthers (mark ∷ joined) xs → findings_by mark h xs ≡ []
others-find-none mark joined h [] others = refl
others-find-none mark joined h (x ∷ xs) others = grind (arith, common_steps, others-find-none mark joined (h ++ x.entry.entry ∷ []) xs others.1)

by-others : (author : Author) (s : Sight) (xs : List (Marked Placed)) → AreByOthers (own_marks s) xs → AllByRecursion (IsByWorker author s) xs
by-others author s [] others = tt
by-others author s (x ∷ xs) others = (inl others.0, by-others author s xs others.1)

all-append : {A : Type 0} (P : A → Type 0) (xs ys : List A) → AllByRecursion P xs → AllByRecursion P ys → AllByRecursion P (xs ++ ys)
all-append P [] ys one two = two
all-append P (x ∷ xs) ys one two = (one.0, all-append P xs ys one.1 two)

seen-more : (xs ys : List (Marked Placed)) → entries_of (entries (xs ++ ys)) ≡ entries_of (entries xs) ++ entries_of (entries ys)
seen-more xs ys = ap entries_of (map-append (λ (x : Marked Placed). x.entry) xs ys) ∙ map-append (λ (p : Placed). p.entry) (entries xs) (entries ys)

-- ---- one machine
pub sees-at : (author : Author) (uses : List Use) (place : ℕ) (old new : Sight) → found_at place uses ≡ [] → SeesMore old new → BisectsAt author uses place old new
sees-at author uses place old new none sees = grind (arith, common_steps, by-others, others-find-none)

found-append : (place : ℕ) (us vs : List Use) → found_at place (us ++ vs) ≡ found_at place us ++ found_at place vs
found-append place us vs = grind (arith, common_steps)

at-trans : (author : Author) (us vs : List Use) (place : ℕ) (a b c : Sight) → BisectsAt author us place a b → BisectsAt author vs place b c → BisectsAt author (us ++ vs) place a c
at-trans author us vs place a b c first then =
    let then' : BisectsAt author vs place (seeing a (a.seen ++ first.more)) c = subst (λ (s : Sight). BisectsAt author vs place s c) first.sees then in
    record {
      more = first.more ++ then'.more;
      sees = then'.sees ∙ ap (λ (log : List (Marked Placed)). seeing a log) (append_assoc a.seen first.more then'.more);
      each = all-append (IsByWorker author a) first.more then'.more first.each then'.each;
      found =
          findings-append a.mark (entries_of (entries a.seen)) first.more then'.more
          ∙ ap (λ (h : List Entry). findings_by a.mark (entries_of (entries a.seen)) first.more ++ findings_by a.mark h then'.more) (sym (seen-more a.seen first.more))
          ∙ ap₂ (λ (fs gs : List Finding). fs ++ gs) first.found then'.found
          ∙ sym (found-append place us vs);
    }

-- ---- all machines
pub each-sees : (author : Author) (uses : List Use) → ((k : ℕ) → found_at k uses ≡ []) → (place : ℕ) (old new : List Sight) → AllZip SeesMore old new → EachBisects author uses place old new
each-sees author uses none place [] [] all = tt
each-sees author uses none place [] (t ∷ new) all = absurd all
each-sees author uses none place (s ∷ old) [] all = absurd all
each-sees author uses none place (s ∷ old) (t ∷ new) all = (sees-at author uses place s t (none place) all.0, each-sees author uses none (suc place) old new all.1)

each-trans : (author : Author) (us vs : List Use) (place : ℕ) (a b c : List Sight) → EachBisects author us place a b → EachBisects author vs place b c → EachBisects author (us ++ vs) place a c
each-trans author us vs place [] [] [] one two = tt
each-trans author us vs place [] [] (z ∷ c) one two = absurd two
each-trans author us vs place [] (y ∷ b) c one two = absurd one
each-trans author us vs place (x ∷ a) [] c one two = absurd one
each-trans author us vs place (x ∷ a) (y ∷ b) [] one two = absurd two
each-trans author us vs place (x ∷ a) (y ∷ b) (z ∷ c) one two = (at-trans author us vs place x y z one.0 two.0, each-trans author us vs (suc place) a b c one.1 two.1)

some-same : {A : Type 0} (x y : A) → Some x ≡ Some y → x ≡ y
some-same x y is = ap (λ o. unwrap_or o x) is

-- nothing was seen of the others
sees-none : (s : Sight) → SeesMore s s
sees-none s = ([], tt, ap (λ (log : List (Marked Placed)). seeing s log) (sym (append-nil s.seen)))

each-same : (author : Author) (uses : List Use) (place : ℕ) (pass : List Sight) → ((k : ℕ) → place ≤ k → found_at k uses ≡ []) → EachBisects author uses place pass pass
each-same author uses place [] none = tt
each-same author uses place (s ∷ pass) none = grind (arith, common_steps, each-same author uses (suc place) pass (λ k le. none k (omega (arith, le))))

-- one machine's change, at a place behind so many
each-change : (author : Author) (uses : List Use) (start place : ℕ) (pass : List Sight) (before after : Sight) → slice_get pass place ≡ Some before
    → ((k : ℕ) → ((k ≡ start + place) → ⊥) → found_at k uses ≡ []) → BisectsAt author uses (start + place) before after → EachBisects author uses start pass (slice_set pass place after)
each-change author uses start place [] before after there none at = absurd (let no : None ≡ Some before = there in cc)
each-change author uses start zero (s ∷ pass) before after there none at = grind (arith, common_steps, some-same, each-same)
each-change author uses start (suc place) (s ∷ pass) before after there none at =
    let on : start + suc place ≡ suc start + place = omega arith in (
      sees-at author uses start s s (none start (λ is. omega (arith, is))) (sees-none s),
      each-change author uses (suc start) place pass before after there (λ k no. none k (λ is. no (omega (arith, is))))
          (subst (λ (k : ℕ). BisectsAt author uses k before after) on at),
    )

-- ---- what was due stays due
due-later : (author : Author) (uses : List Use) (word : List ℕ) (start place : ℕ) (old new : List Sight) (s : Sight) (ask : Ask) → EachBisects author uses start old new
    → slice_get old place ≡ Some s → IsDue word (entries s.seen) ask → (t : Sight) × (slice_get new place ≡ Some t) × IsDue word (entries t.seen) ask
due-later author uses word start place [] [] s ask each there due = absurd (let no : None ≡ Some s = there in cc)
due-later author uses word start place [] (t ∷ new) s ask each there due = absurd each
due-later author uses word start place (x ∷ old) [] s ask each there due = absurd each
due-later author uses word start zero (x ∷ old) (t ∷ new) s ask each there due =
    let at : BisectsAt author uses start s t = subst (λ (y : Sight). BisectsAt author uses start y t) (some-same x s there) each.0 in (
      t,
      refl,
      subst (λ (ps : List Placed). IsDue word ps ask) (sym (ap (λ (y : Sight). entries y.seen) at.sees ∙ map-append (λ (x : Marked Placed). x.entry) s.seen at.more))
          (later-due word (entries s.seen) (entries at.more) ask due),
    )
due-later author uses word start (suc place) (x ∷ old) (t ∷ new) s ask each there due = due-later author uses word (suc start) place old new s ask each.1 there due

due-on : (author : Author) (uses : List Use) (word : List ℕ) (old new : List Sight) → EachBisects author uses 0 old new → (ask : Ask) → IsDueIn word old ask → IsDueIn word new ask
due-on author uses word old new each ask is =
    let on = due-later author uses word 0 is.place old new is.sight ask each is.there is.due in
    record { place = is.place; sight = on.0; there = on.1; due = on.2 }

-- ---- one call after another
pub nothing : (author : Author) (word : List ℕ) (old new : List Sight) (asked : Option (List Ask)) (before after : ℕ) → AllZip SeesMore old new → before ≤ after
    → IsBisectedIn author word old new asked asked before after
nothing author word old new asked before after sees le = grind (arith, common_steps, each-sees, append-nil)

pub joined : (author : Author) (word : List ℕ) (a b c : List Sight) (x y z : Option (List Ask)) (k m n : ℕ)
    → IsBisectedIn author word a b x y k m → IsBisectedIn author word b c y z m n → IsBisectedIn author word a c x z k n
joined author word a b c x y z k m n first then = record {
  uses = first.uses ++ then.uses;
  told = grind (arith, common_steps);
  each = each-trans author first.uses then.uses 0 a b c first.each then.each;
  due = subst (λ (xs : List Ask). All (IsDueIn word c) xs) (sym asks_are)
      (All-append (IsDueIn word c) (asks_of first.uses) (asks_of then.uses)
      (All-weaker (IsDueIn word b) (IsDueIn word c) (due-on author then.uses word b c then.each) (asks_of first.uses) first.due) then.due);
  rose = omega (arith, chosen-append is_given_up first.uses then.uses, first.rose, then.rose);
}
  where
    asks_are : asks_of (first.uses ++ then.uses) ≡ asks_of first.uses ++ asks_of then.uses
    asks_are = map-append (λ (u : Use). u.ask) first.uses then.uses

pub sees-all : (pass : List Sight) → AllZip SeesMore pass pass
sees-all [] = tt
sees-all (s ∷ pass) = (sees-none s, sees-all pass)

-- one machine's pass has seen more
all-sees : (pass : List Sight) (place : ℕ) (s new : Sight) → slice_get pass place ≡ Some s → SeesMore s new → AllZip SeesMore pass (slice_set pass place new)
all-sees [] place s new at sees = tt
all-sees (x ∷ pass) zero s new at sees = (subst (λ (y : Sight). SeesMore y new) (sym (some-same x s at)) sees, sees-all pass)
all-sees (x ∷ pass) (suc place) s new at sees = (sees-none x, all-sees pass place s new at sees)

-- ---- a question that was asked
module _ (author : Author) (word : List ℕ) (q : Question) (status : Option ℕ) (machine : ℕ) (old : List Sight) (taken : OfSeen machine old (λ h. IsQuestion h q)) where
  abbrev ask : Ask
  ask = record { test = word; commit = q.commit; status = status }

  due-now : IsDueIn word old (record { test = word; commit = q.commit; status = status })
  due-now =
      let s : Sight = taken.0 in
      let ps : List Placed = entries s.seen in
      let question = taken.2.0 in
      record {
        place = machine;
        sight = s;
        there = taken.1;
        due = record {
          of_test = refl;
          count = length ps;
          within = omega arith;
          asked = grind (arith, common_steps);
        };
      }

  told-one : (asked : Option (List Ask)) (place : Option ℕ) → with_ask (record { test = word; commit = q.commit; status = status }) asked
      ≡ option_map (λ (before : List Ask). before ++ asks_of (record { ask = record { test = word; commit = q.commit; status = status }; place = place } ∷ [])) asked
  told-one asked place = grind (arith, common_steps)

  -- and not used
  pub unused : (new : List Sight) (asked asked' : Option (List Ask)) (before after : ℕ) → AllZip SeesMore old new
      → asked' ≡ with_ask (record { test = word; commit = q.commit; status = status }) asked → before ≤ after → IsBisectedIn author word old new asked asked' before after
  unused new asked asked' before after sees told le =
      let uses : List Use = record { ask = ask; place = None } ∷ [] in
      let each : EachBisects author uses 0 old new = each-sees author uses (λ k. refl) 0 old new sees in
      record {
        uses = uses;
        told = told ∙ told-one asked None;
        each = each;
        due = All-cons (IsDueIn word new) ask [] (due-on author uses word old new each ask due-now) (All-nil (IsDueIn word new));
        rose = omega (arith, le);
      }

  asks-it : (o : Outcome) (place : ℕ) → answer_to o place ≡ answered.Ok → asked_by o ≡ Some place
  asks-it o place is = grind (arith, common_steps)

  abbrev e : Entry
  e = entry_said q.job q.place status

  abbrev Added : Answered → Track → Track → Type 0
  Added a w u = (bare u ≡ bare w) ⊎ ((a ≡ answered.Ok) × (bare u ≡ bare (with_entry author w (entry_said q.job q.place status))))

  put-of : (l : Option Limit) (w u : Track) (told : Settled) → IsPut l w author (entry_said q.job q.place status) told u → Added answered.Ok w u
  put-of l w u told put = grind (arith, common_steps)

  taken-of : (a : Answered) (w u : Track) (told : Settled) → IsTaken a w author (entry_said q.job q.place status) told u → Added a w u
  taken-of a w u told is = grind (arith, common_steps)

  name-of : (h : List Entry) → asked_name h q.job ≡ q.commit → (s : Option ℕ) → finding_of h (entry_said q.job q.place s) ≡ Some (record { commit = q.commit; status = s })
  name-of h is s = grind (arith, common_steps)

  abbrev used : Use
  used = record { ask = record { test = word; commit = q.commit; status = status }; place = Some machine }

  own-number : (n : ℕ) → (n == n) ≡ true
  own-number n = eq-eqb n n refl

  found-own : found_at machine (record { ask = record { test = word; commit = q.commit; status = status }; place = Some machine } ∷ []) ≡ record { commit = q.commit; status = status } ∷ []
  found-own = ap (λ b. map found_by (cond b (used ∷ []) [])) (own-number machine)

  found-other : (k : ℕ) → ((k ≡ machine) → ⊥) → found_at k (record { ask = record { test = word; commit = q.commit; status = status }; place = Some machine } ∷ []) ≡ []
  found-other k other = ap (λ b. map found_by (cond b (used ∷ []) [])) (ne_eqb machine k (λ is. other (sym is)))

  not-longer : (xs : List Placed) (x : Placed) → xs ++ x ∷ [] ≡ xs → ⊥
  not-longer xs x is = grind (arith, common_steps)

  last-same : (xs : List Placed) (a b : Placed) → xs ++ a ∷ [] ≡ xs ++ b ∷ [] → a ≡ b
  last-same [] a b is = cc
  last-same (x ∷ xs) a b is = last-same xs a b (cc)

  module _ (named : JobsAreNamed) (p n : Sight) (question : IsQuestion (seen_of p) q) (told : Settled) (v : Visits (Settles author q status told) p n) where
    abbrev w : Track
    w = v.before.track

    sees-only : bare v.after.track ≡ bare v.before.track → SeesMore p n
    sees-only same = stays-sees p n (record {
      found = v.found;
      sees = v.sees;
      before = v.before;
      after = v.after;
      was = v.was;
      left = v.left;
      does = same;
      adds = v.adds;
    })

    abbrev h : List Entry
    h = entries_of (entries p.seen)

    abbrev h' : List Entry
    h' = entries_of (entries p.seen) ++ entries_of (entries v.sees.0)

    found-is : entries_of v.before.track.history ≡ entries_of (entries p.seen) ++ entries_of (entries v.sees.0)
    found-is =
        ap (λ (t : Track). entries_of t.history) v.was ∙ ap (λ (s : Sight). entries_of (entries s.seen)) v.sees.2 ∙ seen-more p.seen v.sees.0

    commit-is : answer_to v.does.track.bisection.outcome q.place ≡ answered.Ok → asked_name (entries_of (entries p.seen) ++ entries_of (entries v.sees.0)) q.job ≡ q.commit
    commit-is ok =
        let later : Bisection = v.does.track.bisection in
        let there : job_in q.job (jobs h') ≡ Some later = subst (λ (g : List Entry). job_in q.job (jobs g) ≡ Some later) found-is v.does.track.there in
        ap (named_asked h') there
        ∙ question-stays named h (entries_of (entries v.sees.0)) q.job q.place question.0.bisection later question.1 question.0.there question.0.asks there (asks-it later.outcome q.place ok)
        ∙ sym question.0.commit

    uses-it : answer_to v.does.track.bisection.outcome q.place ≡ answered.Ok → bare v.after.track ≡ bare (with_entry author v.before.track (entry_said q.job q.place status))
        → BisectsAt author (record { ask = record { test = word; commit = q.commit; status = status }; place = Some machine } ∷ []) machine p n
    uses-it ok added =
        let found : Sight = v.found in
        let x : Placed = record { author = author; entry = e } in
        let then : track_of n ≡ with_entry author (track_of found) e = sym v.left ∙ added ∙ ap (λ (t : Track). with_entry author t e) v.was in
        let history : entries n.seen ≡ entries found.seen ++ x ∷ [] = ap (λ (t : Track). t.history) then in
        elim v.adds [
          | inl same ↦ absurd (not-longer (entries found.seen) x (sym history ∙ ap (λ (s : Sight). entries s.seen) same))
          | inr one ↦
              let y : Placed = one.0 in
              let seen : entries n.seen ≡ entries found.seen ++ y ∷ [] =
              ap (λ (s : Sight). entries s.seen) one.1 ∙ map-append (λ (z : Marked Placed). z.entry) found.seen (marked y (Some found.mark) ∷ []) in
              let same : y ≡ x = last-same (entries found.seen) y x (sym seen ∙ history) in
              let m : Marked Placed = marked y (Some p.mark) in
              record {
                more = v.sees.0 ++ m ∷ [];
                sees =
                    one.1 ∙ ap (λ (s : Sight). seeing s (s.seen ++ marked y (Some s.mark) ∷ [])) v.sees.2
                    ∙ ap (λ (log : List (Marked Placed)). seeing p log) (append_assoc p.seen v.sees.0 (m ∷ []));
                each = all-append (IsByWorker author p) v.sees.0 (m ∷ []) (by-others author p v.sees.0 v.sees.1)
                    (inr (refl, record { author_is = ap (λ (z : Placed). z.author) same; job = q.job; place = q.place; status = status; entry_is = ap (λ (z : Placed). z.entry) same }), tt);
                found =
                    findings-append p.mark h v.sees.0 (m ∷ [])
                    ∙ ap (λ (fs : List Finding). fs ++ findings_by p.mark h' (m ∷ [])) (others-find-none p.mark p.joined h v.sees.0 v.sees.1)
                    ∙ ap (λ b. cond b (option_to_list (finding_of h' y.entry)) [] ++ []) (own-number p.mark)
                    ∙ ap (λ (z : Placed). option_to_list (finding_of h' z.entry) ++ []) same
                    ∙ ap (λ (o : Option Finding). option_to_list o ++ []) (name-of h' (commit-is ok) status)
                    ∙ sym found-own;
              }
        ]

    pub settled-at : (SeesMore p n) ⊎ BisectsAt author (record { ask = record { test = word; commit = q.commit; status = status }; place = Some machine } ∷ []) machine p n
    settled-at = elim (taken-of (answer_to v.does.track.bisection.outcome q.place) v.before.track v.after.track told v.does.track.taken) [
      | inl same ↦ inl (sees-only same)
      | inr added ↦ inr (uses-it added.0 added.1)
    ]

  given-one : (s : Option ℕ) → given_up (record { ask = record { test = word; commit = q.commit; status = s }; place = Some machine } ∷ []) ≡ failures s
  given-one s = grind (arith, common_steps)

  -- or what it found was said
  pub settled : JobsAreNamed → (new : List Sight) (told : Settled) → ChangesAt machine (Visits (Settles author q status told)) old new → (asked asked' : Option (List Ask)) (before after : ℕ)
      → asked' ≡ with_ask (record { test = word; commit = q.commit; status = status }) asked → RoseBy (failures status) before after → before ≤ after
      → IsBisectedIn author word old new asked asked' before after
  settled named new told is asked asked' before after tells rose le =
      let p : Sight = is.before in
      let here : taken.0 ≡ p = some-same taken.0 p (sym taken.1 ∙ is.there) in
      let question : IsQuestion (seen_of p) q = subst (λ (s : Sight). IsQuestion (seen_of s) q) here taken.2 in
      elim (settled-at named p is.after question told is.becomes) [
        | inl sees ↦
            unused new asked asked' before after
            (subst (λ (xs : List Sight). AllZip SeesMore old xs) (sym is.changed) (all-sees old machine p is.after is.there sees)) tells le
        | inr at ↦
            let uses : List Use = used ∷ [] in
            let zero-is : 0 + machine ≡ machine = omega arith in
            let each : EachBisects author uses 0 old new =
            subst (λ (xs : List Sight). EachBisects author uses 0 old xs) (sym is.changed)
            (each-change author uses 0 machine old p is.after is.there (λ k other. found-other k (λ same. other (same ∙ sym zero-is)))
            (subst (λ (k : ℕ). BisectsAt author uses k p is.after) (sym zero-is) at)) in
            record {
              uses = uses;
              told = tells ∙ told-one asked (Some machine);
              each = each;
              due = All-cons (IsDueIn word new) ask [] (due-on author uses word old new each ask due-now) (All-nil (IsDueIn word new));
              rose = let one = given-one status in omega (arith, one, rose);
            }
      ]
