-- Private: no public contract cites this. What the first pass of a machine's lock knows while others are joined into it.
use Rattle.std.proofs.Common.{◌≡◌, ◌<◌, ℕ, suc, inl, inr, List, [], ◌∷◌, ◌++◌, refl, sym, ap, subst, ◌∙◌, Option, Some, None, arith, append_assoc, append-nil}
use Rattle.std.{specs.Prelude.{◌⊎◌, slice_get}, specs.List.AllByRecursion, proofs.lemmas.Bool.cases_order, proofs.lemmas.Grind.common_steps}
use Rattle.history_lock.specs.{Marks.{AreBy, AreByOthers, IsLongerOf, IsNoneOf, IsOtherMark, entries, marked, unmarked}, declared.view.Marked.Marked}
use Rattle.history_model.specs.declared.entries.Placed.{Placed}
use Rattle.track_model.specs.Tracks.{Track}
use Rattle.track_room.specs.Sights.{Sight, IsFirstOf, Joins, own_marks, splitting}
use Rattle.play_fits.{specs.Whole.IsJoined, proofs.Joins.{joins-keep, others-append, others-than}}
use Rattle.play_seats.specs.Joining.{Part, part_of, marks_of, IsBehind, Joining, IsMadeByPart}

-- ---- a new lock
no-mark : (x : Marked Placed) → ((m : ℕ) → x.by ≡ Some m → ¬ (IsNoneOf m [])) → x ≡ marked x.entry None
no-mark x none = grind (arith, common_steps)

pub all-unmarked : (xs : List (Marked Placed)) → AreBy [] xs → xs ≡ unmarked (entries xs)
all-unmarked [] none = refl
all-unmarked (x ∷ xs) none = ap (λ (y : Marked Placed). y ∷ xs) (no-mark x none.0) ∙ ap (λ (l : List (Marked Placed)). marked x.entry None ∷ l) (all-unmarked xs none.1)

pub joining-starts : (t : Track) (s : Sight) → IsFirstOf t s → Joining t.history [] s
joining-starts t s first = grind (arith, common_steps, all-unmarked, append-nil)

pub joining-splits : (kept : List Placed) (parts : List Part) (s : Sight) → Joining kept parts s → Joining kept parts (splitting s)
joining-splits kept parts s j = record { mark = j.mark; joined = j.joined; rest = j.rest; begins = j.begins; others = j.others; behind = j.behind }

-- ---- a join
-- the mark of a part is one of theirs
not-none : (front : List ℕ) (m : ℕ) (back : List ℕ) → ¬ (IsNoneOf m (front ++ m ∷ back))
not-none [] m back none = none.0 refl
not-none (k ∷ front) m back none = not-none front m back none.1

each-behind : (marks front : List ℕ) (parts : List Part) (first other log : List (Marked Placed)) (mark : ℕ) → marks ≡ front ++ marks_of parts → IsJoined marks first other mark log → AllByRecursion (IsBehind first) parts → AllByRecursion (IsBehind log) parts
each-behind marks front [] first other log mark is j all = tt
each-behind marks front (w ∷ parts) first other log mark is j all = (
  j.before w.mark w.seen (λ none. not-none front w.mark (marks_of parts) (subst (λ (l : List ℕ). IsNoneOf w.mark l) is none)) all.0,
  each-behind marks (front ++ w.mark ∷ []) parts first other log mark (is ∙ sym (append_assoc front (w.mark ∷ []) (marks_of parts))) j all.1,
)

own-zero : (s : Sight) → s.mark ≡ 0 → ¬ (IsNoneOf 0 (own_marks s))
own-zero s is none = none.0 (sym is)

-- what is behind the kept entries
record Rest (kept : List Placed) (log : List (Marked Placed)) : Type 0 where
  rest : List (Marked Placed)
  begins : log ≡ unmarked kept ++ rest
  others : AreByOthers (0 ∷ []) rest

pub joining-goes-on : (kept : List Placed) (parts : List Part) (old other new : Sight) → Joining kept parts old → Joins old other new → Joining kept (part_of other ∷ parts) new
joining-goes-on kept parts old other new j joins =
    let log : List (Marked Placed) = joins.0 in
    let k : IsJoined (own_marks old) old.seen other.seen other.mark log = joins-keep (own_marks old) old.seen other.seen other.mark log joins.1 in
    let seen : new.seen ≡ log = ap (λ (s : Sight). s.seen) joins.2 in
    let back : Rest kept log = rest-of joins.1 in
    record {
      mark = ap (λ (s : Sight). s.mark) joins.2 ∙ j.mark;
      joined = ap (λ (s : Sight). s.joined) joins.2 ∙ ap (λ (l : List ℕ). other.mark ∷ l) j.joined;
      rest = back.rest;
      begins = seen ∙ back.begins;
      others = back.others;
      behind = subst (λ (l : List (Marked Placed)). AllByRecursion (IsBehind l) (part_of other ∷ parts)) (sym seen) (k.joined, each-behind (own_marks old) (old.mark ∷ []) parts old.seen other.seen log other.mark (ap (λ (l : List ℕ). old.mark ∷ l) j.joined) k j.behind);
    }
  where
    rest-of : {log : List (Marked Placed)} → IsLongerOf (own_marks old) old.seen (other.mark ∷ []) other.seen log → Rest kept log
    rest-of (inl longer) = record { rest = j.rest; begins = longer.0 ∙ j.begins; others = j.others }
    rest-of (inr longer) = record {
      rest = j.rest ++ longer.1.0;
      begins = longer.0 ∙ longer.1.1 ∙ ap (λ (l : List (Marked Placed)). l ++ longer.1.0) j.begins ∙ append_assoc (unmarked kept) j.rest longer.1.0;
      others = others-append (0 ∷ []) j.rest longer.1.0 j.others (others-than (own_marks old) 0 longer.1.0 (own-zero old j.mark) longer.1.2);
    }

-- ---- the end
not-equal : (a b : ℕ) → a ≡ b → (a < b) ⊎ (b < a) → ⊥
not-equal a b same x3 = grind (arith, common_steps)

-- one of some parts has this mark
find-part : (parts : List Part) (m : ℕ) → ¬ (IsNoneOf m (marks_of parts)) → (place : ℕ) × (w : Part) × (slice_get parts place ≡ Some w) × (m ≡ w.mark)
find-part [] m some = absurd (some tt)
find-part (w ∷ parts) m some =
    elim (cases_order m w.mark) [
      | inl is ↦ (0, w, refl, is)
      | inr other ↦ later (find-part parts m (λ none. some ((λ same. not-equal m w.mark same other), none)))
    ]
  where
    later : (place : ℕ) × (u : Part) × (slice_get parts place ≡ Some u) × (m ≡ u.mark) → (place : ℕ) × (u : Part) × (slice_get (w ∷ parts) place ≡ Some u) × (m ≡ u.mark)
    later rest = (suc rest.0, rest.1, rest.2, rest.3)

made-by-parts : (parts : List Part) (s : Sight) → s.mark ≡ 0 → s.joined ≡ marks_of parts → (rest : List (Marked Placed)) → AreByOthers (0 ∷ []) rest → AreBy (own_marks s) rest → AllByRecursion (IsMadeByPart parts) rest
made-by-parts parts s zero_is joined [] others by = tt
made-by-parts parts s zero_is joined (x ∷ rest) others by = (one x.by refl others.0, made-by-parts parts s zero_is joined rest others.1 by.1)
  where
    one : (b : Option ℕ) → x.by ≡ b → IsOtherMark (0 ∷ []) b → IsMadeByPart parts x
    one None is other = absurd other
    one (Some m) is other =
        let found : (place : ℕ) × (w : Part) × (slice_get parts place ≡ Some w) × (m ≡ w.mark) = grind (arith, common_steps, find-part) in
        record { place = found.0; part = found.1; there = found.2; mark = is ∙ ap (λ (k : ℕ). Some k) found.3 }

by-behind : (marks : List ℕ) (xs ys : List (Marked Placed)) → AreBy marks (xs ++ ys) → AreBy marks ys
by-behind marks [] ys by = by
by-behind marks (x ∷ xs) ys by = by-behind marks xs ys by.1

pub joining-ends : (kept : List Placed) (parts : List Part) (s : Sight) (j : Joining kept parts s) → AreBy (own_marks s) s.seen → AllByRecursion (IsMadeByPart parts) j.rest
joining-ends kept parts s j by = grind (arith, common_steps, made-by-parts, by-behind)
