-- What is needed for the publications of a history, and where each need stands in the plan.
use Rattle.std.proofs.Common.{◌≡◌, ℕ, zero, suc, ◌+◌, ◌<◌, ◌≤◌, Bool, true, false, List, [], ◌∷◌, ◌++◌, length, get_or, take, inl, inr, refl, sym, ap, ◌∙◌, subst, arith, Some}
use Rattle.std.{specs.Prelude.{Contains, option_map, slice_get}, proofs.lemmas.List.{get_or-map, length-map, length-take-le, take_more}}
use Rattle.std.proofs.lemmas.List.{Elements.{Contains-append_left, Contains-append_right}, Sorted.{Contains-permutation, IsPermutation-sym}}
use Rattle.std.proofs.lemmas.{Option.{slice_get-get_or, slice_get-map, slice_get_read, slice_get_within, get_or_from_slice_get}, Grind.common_steps}
use Rattle.history_model.specs.{declared.entries.Entry.Entry, declared.entries.Placed.Placed, declared.publication.Publication.Publication, Entries.entries_of}
use Rattle.history_model.specs.declared.entries.Entry.TheVariants as entry
use Rattle.history_model.proofs.Members.{here, behind, either, none-in-nil}
use Rattle.journal_walk.specs.{declared.needs.Need.Need, Needs.{IsPlan, need_of, needs_from, needs_of, time_of}}

-- a history has as many entries as items
pub many : (history : List Placed) → length (entries_of history) ≡ length history
many history = length-map history (λ (p : Placed). p.entry)

-- one entry more
pub needs-push : (place : ℕ) (es : List Entry) (e : Entry) → needs_from place (es ++ e ∷ []) ≡ needs_from place es ++ needs_of (place + length es) e
needs-push place [] e = grind (arith, common_steps)
needs-push place (x ∷ es) e = grind (arith, common_steps, needs-push (place + 1) es e)

-- the first entries of a history, one more
pub needs-more : (history : List Placed) (i : ℕ) (x : Placed) → i < length history → x ≡ get_or history i x
    → needs_from 0 (take (i + 1) (entries_of history)) ≡ needs_from 0 (take i (entries_of history)) ++ needs_of i x.entry
needs-more history i x lt is =
    let size : length (entries_of history) ≡ length history = many history in
    let at : get_or (entries_of history) i x.entry ≡ x.entry = get_or-map (λ (p : Placed). p.entry) history i x x.entry lt ∙ ap (λ (p : Placed). p.entry) (sym is) in
    let short : length (take i (entries_of history)) ≡ i = length-take-le i (entries_of history) (omega (arith, lt, size)) in
    let place : 0 + length (take i (entries_of history)) ≡ i = omega (arith, short) in
    ap (needs_from 0) (take_more (entries_of history) i x.entry (omega (arith, lt, size)))
    ∙ needs-push 0 (take i (entries_of history)) (get_or (entries_of history) i x.entry)
    ∙ ap (λ (e : Entry). needs_from 0 (take i (entries_of history)) ++ needs_of (0 + length (take i (entries_of history))) e) at
    ∙ ap (λ (n : ℕ). needs_from 0 (take i (entries_of history)) ++ needs_of n x.entry) place

-- the entry at a place
pub entry-there : (history : List Placed) (place : ℕ) (x : Placed) → slice_get history place ≡ Some x → slice_get (entries_of history) place ≡ Some x.entry
entry-there history place x there = grind (arith, common_steps, slice_get-map, option_map)

pub entry-at : (history : List Placed) (place : ℕ) (x : Placed) (e : Entry) → place < length history → x ≡ get_or history place x
    → slice_get (entries_of history) place ≡ Some e → x.entry ≡ e
entry-at history place x e lt is there = grind (arith, common_steps, entry-there, slice_get_read, length)

-- ---- all that is needed is there
needed : (place : ℕ) (p : Publication) (is_base : Bool) → Contains (needs_of place (entry.Publish p)) (need_of place is_base p)
needed place p true = here (need_of place true p) (need_of place false p ∷ [])
needed place p false = behind (need_of place false p) (need_of place true p) (need_of place false p ∷ []) (here (need_of place false p) [])

pub planned : (place : ℕ) (es : List Entry) (k : ℕ) (p : Publication) (is_base : Bool) → slice_get es k ≡ Some (entry.Publish p)
    → Contains (needs_from place es) (need_of (place + k) is_base p)
planned place [] k p is_base there = absurd (cc)
planned place (e ∷ es) zero p is_base there =
    let same : place + 0 ≡ place = omega arith in
    let is : entry.Publish p ≡ e = (let back : e ≡ entry.Publish p = cc in sym back) in
    let now : Contains (needs_of place e) (need_of place is_base p) = subst (λ (x : Entry). Contains (needs_of place x) (need_of place is_base p)) is (needed place p is_base) in
    subst (λ (n : ℕ). Contains (needs_of place e ++ needs_from (place + 1) es) (need_of n is_base p)) (sym same)
    (Contains-append_left (needs_of place e) (needs_from (place + 1) es) (need_of place is_base p) now)
planned place (e ∷ es) (suc k) p is_base there =
    let same : place + 1 + k ≡ place + suc k = omega arith in
    let rest = subst (λ (n : ℕ). Contains (needs_from (place + 1) es) (need_of n is_base p)) same (planned (place + 1) es k p is_base there) in
    Contains-append_right (needs_of place e) (needs_from (place + 1) es) (need_of (place + suc k) is_base p) rest

-- ---- and nothing else
pub record IsNeedAt (place : ℕ) (es : List Entry) (need : Need) : Type 0 where
  pub offset : ℕ
  pub publication : Publication
  pub there : slice_get es offset ≡ Some (entry.Publish publication)
  pub is : need ≡ need_of (place + offset) need.is_base publication

later-need : (place : ℕ) (e : Entry) (es : List Entry) (need : Need) → IsNeedAt (place + 1) es need → IsNeedAt place (e ∷ es) need
later-need place e es need at =
    let same : place + 1 + at.offset ≡ place + suc at.offset = omega arith in
    record {
      offset = suc at.offset;
      publication = at.publication;
      there = at.there;
      is = at.is ∙ ap (λ (n : ℕ). need_of n need.is_base at.publication) same;
    }

need-here : (place : ℕ) (p : Publication) (es : List Entry) (is_base : Bool) (need : Need) → need_of place is_base p ≡ need → IsNeedAt place (entry.Publish p ∷ es) need
need-here place p es is_base need is =
    let same : place + 0 ≡ place = omega arith in
    let base : is_base ≡ need.is_base = ap (λ (n : Need). n.is_base) is in
    record {
      offset = 0;
      publication = p;
      there = refl;
      is = sym is ∙ ap (λ (b : Bool). need_of place b p) base ∙ ap (λ (n : ℕ). need_of n need.is_base p) (sym same);
    }

pub are-needs : (place : ℕ) (es : List Entry) (need : Need) → Contains (needs_from place es) need → IsNeedAt place es need
are-needs place [] need has = absurd (none-in-nil need has)
are-needs place (entry.Publish p ∷ es) need has = elim (either need (need_of place true p) (need_of place false p ∷ needs_from (place + 1) es) has) [
  | inl is ↦ need-here place p es true need is
  | inr has' ↦ elim (either need (need_of place false p) (needs_from (place + 1) es) has') [
    | inl is ↦ need-here place p es false need is
    | inr more ↦ later-need place (entry.Publish p) es need (are-needs (place + 1) es need more)
  ]
]
are-needs place (entry.Commit number name ∷ es) need has = later-need place (entry.Commit number name) es need (are-needs (place + 1) es need has)
are-needs place (entry.Accept run ∷ es) need has = later-need place (entry.Accept run) es need (are-needs (place + 1) es need has)
are-needs place (entry.Retract run ∷ es) need has = later-need place (entry.Retract run) es need (are-needs (place + 1) es need has)
are-needs place (entry.Tune metric penalty len ∷ es) need has = later-need place (entry.Tune metric penalty len) es need (are-needs (place + 1) es need has)
are-needs place (entry.Regression event ∷ es) need has = later-need place (entry.Regression event) es need (are-needs (place + 1) es need has)
are-needs place (entry.Job event ∷ es) need has = later-need place (entry.Job event) es need (are-needs (place + 1) es need has)

-- ---- in a plan
-- where a publication's need stands
pub record StandsIn (needs : List Need) (need : Need) : Type 0 where
  pub index : ℕ
  pub within : index < length needs
  pub there : slice_get needs index ≡ Some need

pub in-plan : (es : List Entry) (needs : List Need) → IsPlan es needs → (k : ℕ) (p : Publication) (is_base : Bool) → slice_get es k ≡ Some (entry.Publish p)
    → StandsIn needs (need_of k is_base p)
in-plan es needs plan k p is_base there =
    let zero-plus : 0 + k ≡ k = omega arith in
    let has : Contains needs (need_of (0 + k) is_base p) = Contains-permutation (needs_from 0 es) needs (need_of (0 + k) is_base p) plan.same (planned 0 es k p is_base there) in
    record {
      index = has.0;
      within = has.1;
      there = slice_get-get_or needs has.0 (need_of (0 + k) is_base p) has.1 ∙ ap Some has.2 ∙ ap (λ (n : ℕ). Some (need_of n is_base p)) zero-plus;
    }

-- and which publication it is of
pub of-plan : (es : List Entry) (needs : List Need) → IsPlan es needs → (i : ℕ) (need : Need) → slice_get needs i ≡ Some need → IsNeedAt 0 es need
of-plan es needs plan i need there =
    let within : i < length needs = slice_get_within needs i need there in
    let has : Contains needs need = (i, within, get_or_from_slice_get needs i need need there) in
    are-needs 0 es need (Contains-permutation needs (needs_from 0 es) need (IsPermutation-sym (needs_from 0 es) needs plan.same) has)

-- what its place and its time are
pub record IsNeedOf (es : List Entry) (need : Need) : Type 0 where
  pub publication : Publication
  pub there : slice_get es need.place ≡ Some (entry.Publish publication)
  pub time : need.at ≡ time_of need.is_base publication

pub need-of : (es : List Entry) (needs : List Need) → IsPlan es needs → (i : ℕ) (need : Need) → slice_get needs i ≡ Some need → IsNeedOf es need
need-of es needs plan i need there =
    let at : IsNeedAt 0 es need = of-plan es needs plan i need there in
    let zero-plus : 0 + at.offset ≡ at.offset = omega arith in
    let place : at.offset ≡ need.place = sym (ap (λ (n : Need). n.place) at.is ∙ zero-plus) in
    record {
      publication = at.publication;
      there = ap (slice_get es) (sym place) ∙ at.there;
      time = ap (λ (n : Need). n.at) at.is;
    }

-- a need behind another one is no earlier
pub no-earlier : (es : List Entry) (needs : List Need) → IsPlan es needs → (i j : ℕ) (one other : Need) → slice_get needs i ≡ Some one → slice_get needs j ≡ Some other
    → i ≤ j → one.at ≤ other.at
no-earlier es needs plan i j one other at_i at_j le =
    let up : (get_or needs i one).at ≤ (get_or needs j one).at = plan.sorted i j one le (slice_get_within needs j other at_j) in
    let first : get_or needs i one ≡ one = get_or_from_slice_get needs i one one at_i in
    let second : get_or needs j one ≡ other = get_or_from_slice_get needs j other one at_j in
    let one_at = ap (λ (n : Need). n.at) first in
    let other_at = ap (λ (n : Need). n.at) second in
    omega (arith, up, one_at, other_at)

-- it is one of the history
pub need-inside : (history : List Placed) (needs : List Need) → IsPlan (entries_of history) needs → (i : ℕ) (need : Need) → slice_get needs i ≡ Some need
    → need.place < length history
need-inside history needs plan i need there =
    let is : IsNeedOf (entries_of history) need = need-of (entries_of history) needs plan i need there in
    let within = slice_get_within (entries_of history) need.place (entry.Publish is.publication) is.there in
    let size : length (entries_of history) ≡ length history = many history in
    omega (arith, within, size)
