-- Private: no public contract cites this. The journal of a machine among those of different ones, and a request about it.
use Rattle.std.proofs.Common.{◌≡◌, inl, inr, ℕ, zero, suc, Bool, true, false, not, List, [], ◌∷◌, length, map, filter, Some, refl, sym, ap, subst, ◌∙◌}
use Rattle.std.{specs.Prelude.{slice_get, bytes_eq, if◌then◌else◌, ◌&&◌, ◌||◌}, specs.List.{AllByRecursion, list_any}, proofs.lemmas.Bool.cases_Bool}
use Rattle.std.proofs.lemmas.Slice.Eq.{bytes_eq-Decides}
use Rattle.request_model.specs.{declared.requests.Request.Request, Requests.machine_of}
use Rattle.track_model.specs.Tracks.{Track}
use Rattle.play_fits.specs.Journals.{history_in, machines_of}
use Rattle.play_model.specs.Replies.{is_of_history, stands_alone}
use Rattle.audit_model.specs.Heard.{found, is_of_store, kept_count}

same-bytes : (xs : List ℕ) → bytes_eq xs xs ≡ true
same-bytes xs = (bytes_eq-Decides xs xs).1 refl

other-bytes : (xs ys : List ℕ) → (xs ≡ ys → ⊥) → bytes_eq xs ys ≡ false
other-bytes xs ys other = elim (cases_Bool (bytes_eq xs ys)) [
  | inl same ↦ absurd (other ((bytes_eq-Decides xs ys).0 same))
  | inr past ↦ past
]

-- machines with different names
abbrev pub IsOtherTrack : List ℕ → Track → Type 0
IsOtherTrack m t = t.machine ≡ m → ⊥

abbrev pub AreOthers : List Track → Type 0
AreOthers [] = Unit {0}
AreOthers (t ∷ ts) = AllByRecursion (IsOtherTrack t.machine) ts × AreOthers ts

other-at : (m : List ℕ) (ts : List Track) (k : ℕ) (t : Track) → AllByRecursion (IsOtherTrack m) ts → slice_get ts k ≡ Some t → t.machine ≡ m → ⊥
other-at m [] zero t each is same = absurd (cc)
other-at m [] (suc k) t each is same = absurd (cc)
other-at m (x ∷ ts) zero t each is same = let one : x ≡ t = cc in each.0 (ap (λ (y : Track). y.machine) one ∙ same)
other-at m (x ∷ ts) (suc k) t each is same = other-at m ts k t each.1 is same

-- the history of the machine at a place
pub history_at : (ts : List Track) (k : ℕ) (t : Track) → AreOthers ts → slice_get ts k ≡ Some t → history_in ts t.machine ≡ t.history
history_at [] zero t others is = absurd (cc)
history_at [] (suc k) t others is = absurd (cc)
history_at (x ∷ ts) zero t others is =
    let one : x ≡ t = cc in
    subst (λ (y : Track). history_in (x ∷ ts) y.machine ≡ y.history) one
    (ap (λ (b : Bool). if b then x.history else history_in ts x.machine) (same-bytes x.machine))
history_at (x ∷ ts) (suc k) t others is =
    let other : bytes_eq x.machine t.machine ≡ false = other-bytes x.machine t.machine (λ same. other-at x.machine ts k t others.0 is (sym same)) in
    ap (λ (b : Bool). if b then x.history else history_in ts t.machine) other ∙ history_at ts k t others.1 is

-- as a store kept it: so many entries are known at first
found-others : (m : List ℕ) (ts : List Track) → AllByRecursion (IsOtherTrack m) ts → AllByRecursion (IsOtherTrack m) (map found ts)
found-others m [] each = tt
found-others m (t ∷ ts) each = (each.0, found-others m ts each.1)

found-all : (ts : List Track) → AreOthers ts → AreOthers (map found ts)
found-all [] others = tt
found-all (t ∷ ts) others = (found-others t.machine ts others.0, found-all ts others.1)

found-at : (ts : List Track) (k : ℕ) (t : Track) → slice_get ts k ≡ Some t → slice_get (map found ts) k ≡ Some (found t)
found-at [] zero t is = absurd (cc)
found-at [] (suc k) t is = absurd (cc)
found-at (x ∷ ts) zero t is = let one : x ≡ t = cc in ap (λ (y : Track). Some (found y)) one
found-at (x ∷ ts) (suc k) t is = found-at ts k t is

pub kept_at : (ts : List Track) (k : ℕ) (t : Track) → AreOthers ts → slice_get ts k ≡ Some t → kept_count ts t.machine ≡ length (filter is_of_store t.history)
kept_at ts k t others is = ap length (history_at (map found ts) k (found t) (found-all ts others) (found-at ts k t is))

-- ---- a request about one of them, or about none

or-true : (b : Bool) → (b || true) ≡ true
or-true true = refl
or-true false = refl

any-at : (ts : List Track) (k : ℕ) (t : Track) (m : List ℕ) → slice_get ts k ≡ Some t → t.machine ≡ m → list_any (λ name. bytes_eq name m) (machines_of ts) ≡ true
any-at [] zero t m is same = absurd (cc)
any-at [] (suc k) t m is same = absurd (cc)
any-at (x ∷ ts) zero t m is same =
    let one : x ≡ t = cc in
    let hit : bytes_eq x.machine m ≡ true = ap (λ (n : List ℕ). bytes_eq n m) (ap (λ (y : Track). y.machine) one ∙ same) ∙ same-bytes m in
    ap (λ (b : Bool). b || list_any (λ name. bytes_eq name m) (machines_of ts)) hit
any-at (x ∷ ts) (suc k) t m is same = ap (λ (b : Bool). bytes_eq x.machine m || b) (any-at ts k t m is same) ∙ or-true (bytes_eq x.machine m)

any-none : (ts : List Track) (m : List ℕ) → AllByRecursion (IsOtherTrack m) ts → list_any (λ name. bytes_eq name m) (machines_of ts) ≡ false
any-none [] m each = refl
any-none (x ∷ ts) m each =
    ap (λ (b : Bool). b || list_any (λ name. bytes_eq name m) (machines_of ts)) (other-bytes x.machine m each.0) ∙ any-none ts m each.1

pub declared : (ts : List Track) (k : ℕ) (t : Track) (q : Request) → stands_alone q ≡ false → slice_get ts k ≡ Some t → t.machine ≡ machine_of q → is_of_history (machines_of ts) q ≡ true
declared ts k t q shared is same = ap (λ (b : Bool). not b && list_any (λ name. bytes_eq name (machine_of q)) (machines_of ts)) shared ∙ any-at ts k t (machine_of q) is same

pub undeclared : (ts : List Track) (q : Request) → stands_alone q ≡ false → AllByRecursion (IsOtherTrack (machine_of q)) ts → is_of_history (machines_of ts) q ≡ false
undeclared ts q shared each = ap (λ (b : Bool). not b && list_any (λ name. bytes_eq name (machine_of q)) (machines_of ts)) shared ∙ any-none ts (machine_of q) each

pub alone : (ts : List Track) (q : Request) → stands_alone q ≡ true → is_of_history (machines_of ts) q ≡ false
alone ts q is = ap (λ (b : Bool). not b && list_any (λ name. bytes_eq name (machine_of q)) (machines_of ts)) is
