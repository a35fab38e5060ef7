-- Private: no public contract cites this. A walk along a sound journal.
use Rattle.std.proofs.Common.{◌≡◌, inl, inr, ℕ, zero, suc, ◌+◌, ◌<◌, List, [], ◌∷◌, ◌++◌, length, take, Some, refl, sym, ap, subst, ◌∙◌, arith, append-nil}
use Rattle.std.{specs.Prelude.slice_get, proofs.lemmas.List.length-map, proofs.lemmas.Grind.common_steps}
use Rattle.history_model.specs.{declared.entries.Entry.Entry, declared.entries.Placed.Placed, Allowed.{Allowed, AllowedAfter, Legal}, Entries.entries_of}
use Rattle.play_model.specs.Replies.{first_of}
use Rattle.journal_walk.specs.{Laws.StaysAlong, Walks.{Walked, GoesOn, IsAlong, IsStuck, added, coming}}
use Rattle.journal_reader.proofs.Lists.{some_at}
use Rattle.play_audit.specs.Places.{IsBehind, IsBy}

allowed_in : (before es : List Entry) (n : ℕ) (e : Entry) → AllowedAfter before es → slice_get es n ≡ Some e → Allowed (before ++ take n es) e
allowed_in before [] zero e all is = absurd (cc)
allowed_in before [] (suc n) e all is = absurd (cc)
allowed_in before (x ∷ es) zero e all is = let same : x ≡ e = cc in rw (append-nil before) (subst (Allowed before) same all.0)
allowed_in before (x ∷ es) (suc n) e all is = grind (arith, common_steps, allowed_in (before ++ x ∷ []) es n e all.1 is)

entry_at : (j : List Placed) (n : ℕ) (p : Placed) → slice_get j n ≡ Some p → slice_get (entries_of j) n ≡ Some p.entry
entry_at [] zero p is = absurd (cc)
entry_at [] (suc n) p is = absurd (cc)
entry_at (x ∷ j) zero p is = let same : x ≡ p = cc in ap (λ (y : Placed). Some y.entry) same
entry_at (x ∷ j) (suc n) p is = entry_at j n p is

pub take_entries : (n : ℕ) (j : List Placed) → entries_of (take n j) ≡ take n (entries_of j)
take_entries zero j = refl
take_entries (suc n) [] = refl
take_entries (suc n) (p ∷ j) = ap (λ (l : List Entry). p.entry ∷ l) (take_entries n j)

pub entries_length : (j : List Placed) → length (entries_of j) ≡ length j
entries_length j = length-map j (λ (p : Placed). p.entry)

-- an entry of a sound journal is allowed where the walk stands
pub next_allowed : (w : Walked) (p : Placed) → IsAlong w → Legal (entries_of w.history) → coming w ≡ Some p → Allowed (added w) p.entry
next_allowed w p along legal is =
    let n : ℕ = length w.track.history in
    subst (λ (h : List Entry). Allowed h p.entry) (sym (along.first ∙ take_entries n w.history))
    (allowed_in [] (entries_of w.history) n p.entry legal (entry_at w.history n p is))

pub not_stuck : (w : Walked) → IsAlong w → Legal (entries_of w.history) → length w.track.history < length w.history → IsStuck w → ⊥
not_stuck w along legal below (inl none) =
    let some = some_at w.history (length w.track.history) below in
    absurd (cc)
not_stuck w along legal below (inr s) = s.2 (next_allowed w s.0 along legal s.1)

pub grown_length : (w v : Walked) → GoesOn w v → length v.track.history ≡ length w.track.history + 1
grown_length w v g = grind (arith, common_steps)

pub goes_by : StaysAlong → (machine : List ℕ) (history : List Placed) (count : ℕ) (w v : Walked) → IsBy machine history count w → length w.track.history < count → GoesOn w v
    → IsBy machine history count v
goes_by stays machine history count w v by below g = grind (arith, common_steps, length, grown_length)

-- the entries of a walk behind so many are the first ones
pub first_behind : (machine : List ℕ) (history : List Placed) (count : ℕ) (w : Walked) → IsBehind machine history count w → added w ≡ first_of count history
first_behind machine history count w b = grind (arith, common_steps)
