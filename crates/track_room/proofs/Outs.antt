-- Which passes are out.
use Rattle.std.proofs.lemmas.Grind.{common_steps}
use Rattle.std.proofs.Common.{◌≡◌, ℕ, zero, suc, ◌+◌, ◌<◌, inl, inr, List, [], ◌∷◌, ◌++◌, length, map, get_or, refl, sym, ap, subst, arith}
use Rattle.std.{specs.List.{AllByRecursion, AllZip}, proofs.lemmas.Bool.cases_lt, proofs.lemmas.List.{get_or-map, length-map, map-append}}
use Rattle.history_lock.specs.Marks.{IsNoneOf}
use Rattle.track_model.specs.Tracks.{Track}
use Rattle.track_room.specs.{Rooms.{AreSame, IsSplitBack}, Sights.{Sight, IsFirstOf, IsWholeSight, splitting, split_off}}
use Rattle.track_room.specs.Whole.{JoinComesBack, NoneIsOut, NoneOutIsWhole, SplitBackStays, SplitGoesOut, WorkStaysOut, marks_at}

-- ---- marks
none-append : (m : ℕ) (xs ys : List ℕ) → IsNoneOf m xs → IsNoneOf m ys → IsNoneOf m (xs ++ ys)
none-append m [] ys one two = two
none-append m (x ∷ xs) ys one two = (one.0, none-append m xs ys one.1 two)

none-left : (m : ℕ) (xs ys : List ℕ) → IsNoneOf m (xs ++ ys) → IsNoneOf m xs
none-left m [] ys all = tt
none-left m (x ∷ xs) ys all = (all.0, none-left m xs ys all.1)

none-right : (m : ℕ) (xs ys : List ℕ) → IsNoneOf m (xs ++ ys) → IsNoneOf m ys
none-right m [] ys all = all
none-right m (x ∷ xs) ys all = none-right m xs ys all.1

-- ---- places
at-first : (ts : List Track) (pass : List Sight) → AllZip IsFirstOf ts pass → (k : ℕ) (s : Sight) → k < length pass → ((get_or pass k s).mark ≡ 0) × ((get_or pass k s).given ≡ 0)
at-first [] [] all k s less = absurd (omega (arith, less))
at-first [] (x ∷ pass) all k s less = absurd all
at-first (t ∷ ts) [] all k s less = absurd all
at-first (t ∷ ts) (x ∷ pass) all zero s less = (all.0.1, all.0.2)
at-first (t ∷ ts) (x ∷ pass) all (suc k) s less = at-first ts pass all.1 k s (omega (arith, less))

at-back : (pass new : List Sight) → AllZip IsSplitBack pass new → (k : ℕ) (s : Sight) → k < length new → (k < length pass) × IsSplitBack (get_or pass k s) (get_or new k s)
at-back [] [] all k s less = absurd (omega (arith, less))
at-back [] (x ∷ new) all k s less = absurd all
at-back (x ∷ pass) [] all k s less = absurd all
at-back (x ∷ pass) (y ∷ new) all zero s less = (omega arith, all.0)
at-back (x ∷ pass) (y ∷ new) all (suc k) s less = let rest = at-back pass new all.1 k s (omega (arith, less)) in let below = rest.0 in (omega (arith, below), rest.1)

from-places : (pass : List Sight) → ((k : ℕ) (s : Sight) → k < length pass → IsWholeSight (get_or pass k s)) → AllByRecursion IsWholeSight pass
from-places [] at = tt
from-places (x ∷ pass) at = (at 0 x (omega arith), from-places pass (λ k s less. at (suc k) s (omega (arith, less))))

-- ---- the laws
pub none-is-out : NoneIsOut
none-is-out ts pass all k s less = grind (arith, common_steps, at-first)

pub none-out-is-whole : NoneOutIsWhole
none-out-is-whole pass out = from-places pass (λ k s less.
    let is = out k s less in
    (is.0, λ m some few none. is.1 m some few (none-append m (get_or pass k s).joined [] none tt)))

pub split-goes-out : SplitGoesOut
split-goes-out outs pass out k s less =
    let below : k < length pass = omega (arith, less, length-map pass splitting) in
    let now : get_or (map splitting pass) k s ≡ splitting (get_or pass k s) = get_or-map splitting pass k s s below in
    let other : get_or (map split_off pass) k s ≡ split_off (get_or pass k s) = get_or-map split_off pass k s s below in
    let is = out k s below in
    let p : Sight = get_or pass k s in
    rw (now, other) (
      is.0,
      λ m some few none.
          elim (cases_lt p.given m) [
            | inl above ↦ (let mine = none-right m p.joined ((p.given + 1) ∷ marks_at k s outs) none in mine.0 (omega (arith, few, above)))
            | inr low ↦ is.1 m some low (none-append m p.joined (marks_at k s outs) (none-left m p.joined _ none) (none-right m p.joined _ none).1)
          ],
    )

pub split-back-stays : SplitBackStays
split-back-stays outs pass new all out k s less =
    let back = at-back pass new all k s less in
    let is = out k s back.0 in
    let p : Sight = get_or pass k s in
    elim back.1 [
      | inl same ↦ rw same is
      | inr more ↦ rw more (
        is.0,
        λ m some few none.
            elim (cases_lt p.given m) [
              | inl above ↦ none.0 (omega (arith, few, above))
              | inr low ↦ is.1 m some low none.1
            ],
      )
    ]

-- the marks of passes of which one was changed
marks-apart : (k : ℕ) (s : Sight) (before after : List (List Sight)) → marks_at k s (before ++ after) ≡ marks_at k s before ++ marks_at k s after
marks-apart k s before after = map-append (λ (o : List Sight). (get_or o k s).mark) before after

same-mark : (other new : List Sight) → AreSame other new → (k : ℕ) (s : Sight) → (get_or new k s).mark ≡ (get_or other k s).mark
same-mark [] [] same k s = refl
same-mark [] (y ∷ new) same k s = absurd (let long = ap (λ (xs : List Sight). length xs) same in omega (arith, long))
same-mark (x ∷ other) [] same k s = absurd (let long = ap (λ (xs : List Sight). length xs) same in omega (arith, long))
same-mark (x ∷ other) (y ∷ new) same zero s = ap (λ (xs : List Sight). (get_or xs 0 s).mark) same
same-mark (x ∷ other) (y ∷ new) same (suc k) s = same-mark other new (ap (λ (xs : List Sight). tail xs) same) k s
  where
    tail : List Sight → List Sight
    tail [] = []
    tail (z ∷ zs) = zs

pub work-stays-out : WorkStaysOut
work-stays-out before after other new pass same long out k s less =
    let is = out k s less in
    let marks : marks_at k s (before ++ new ∷ after) ≡ marks_at k s (before ++ other ∷ after) = grind (arith, common_steps, marks-apart, same-mark) in
    rw marks is

pub join-comes-back : JoinComesBack
join-comes-back before after other pass new long joins out k s less =
    let size = joins.long in
    let below : k < length pass = omega (arith, less, size) in
    let joined = joins.joined k s (omega (arith, below, long)) in
    let is = out k s below in
    let p : Sight = get_or pass k s in
    let o : Sight = get_or other k s in
    let apart : marks_at k s (before ++ after) ≡ marks_at k s before ++ marks_at k s after = marks-apart k s before after in
    let whole : marks_at k s (before ++ other ∷ after) ≡ marks_at k s before ++ o.mark ∷ marks_at k s after = marks-apart k s before (other ∷ after) in
    rw joined.2 (
      is.0,
      λ m some few none.
          let behind : IsNoneOf m (marks_at k s before ++ marks_at k s after) = subst (λ (ms : List ℕ). IsNoneOf m ms) apart (none-right m p.joined (marks_at k s (before ++ after)) none.1) in
          is.1 m some few (none-append m p.joined (marks_at k s (before ++ other ∷ after)) (none-left m p.joined (marks_at k s (before ++ after)) none.1)
          (subst (λ (ms : List ℕ). IsNoneOf m ms) (sym whole)
          (none-append m (marks_at k s before) (o.mark ∷ marks_at k s after) (none-left m (marks_at k s before) (marks_at k s after) behind) (none.0, none-right m (marks_at k s before) (marks_at k s after) behind)))),
    )
