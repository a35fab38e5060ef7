-- The first machine that has something to take.
use Rattle.std.proofs.Common.{◌≡◌, ℕ, zero, suc, ◌+◌, ◌<◌, ◌≤◌, List, [], ◌∷◌, ◌++◌, length, take, drop, set, get_or, refl, sym, ap, subst, ◌∙◌, Some, None, arith}
use Rattle.std.{specs.Prelude.slice_get, specs.List.AllZip, proofs.lemmas.List.length-map, proofs.lemmas.Grind.common_steps}
use Rattle.track_room.specs.{Rooms.{AreSame, IsPassOf, badge}, Sights.{Home, Sight, SeesMore, Visits}, Taking.{OfSeen, TakesAt, seen_of}}
use Rattle.history_model.specs.declared.entries.Entry.{Entry}
use Rattle.track_state.specs.Work.{Work}
use Rattle.track_room.proofs.{Places.zip-push, Standing.{all-same, all-sees-set, get-at, same-map, sees-badge, set-at, still-of}}

-- ---- parts of a list
get-drop : {A : Type 0} (xs : List A) (i : ℕ) → slice_get xs i ≡ slice_get (drop i xs) 0
get-drop xs zero = refl
get-drop [] (suc i) = refl
get-drop (x ∷ xs) (suc i) = get-drop xs i

drop-next : {A : Type 0} (xs : List A) (i : ℕ) → drop (suc i) xs ≡ drop 1 (drop i xs)
drop-next xs zero = refl
drop-next [] (suc i) = refl
drop-next (x ∷ xs) (suc i) = drop-next xs i

take-next : {A : Type 0} (xs : List A) (i : ℕ) (x : A) → slice_get xs i ≡ Some x → take (suc i) xs ≡ take i xs ++ x ∷ []
take-next [] i x is = absurd (let no : None ≡ Some x = is in cc)
take-next (y ∷ xs) zero x is = let same : y ≡ x = cc in ap (λ (z : _). z ∷ []) same
take-next (y ∷ xs) (suc i) x is = ap (λ zs. y ∷ zs) (take-next xs i x is)

set-take : {A : Type 0} (xs : List A) (i : ℕ) (x : A) → take i (set xs i x) ≡ take i xs
set-take xs zero x = refl
set-take [] (suc i) x = refl
set-take (y ∷ xs) (suc i) x = ap (λ zs. y ∷ zs) (set-take xs i x)

set-drop : {A : Type 0} (xs : List A) (i : ℕ) (x : A) → drop (suc i) (set xs i x) ≡ drop (suc i) xs
set-drop [] zero x = refl
set-drop [] (suc i) x = refl
set-drop (y ∷ xs) zero x = refl
set-drop (y ∷ xs) (suc i) x = set-drop xs i x

-- ---- so many machines had nothing to take, and the others weren't entered
pub record HaveNone (Nothing : Work → Work → Type 0) (i : ℕ) (old now : List Sight) : Type 0 where
  pub nothing : AllZip (Visits Nothing) (take i old) (take i now)
  pub rest : drop i now ≡ drop i old

none-first : (Nothing : Work → Work → Type 0) (old : List Sight) → HaveNone Nothing 0 old old
none-first Nothing old = record { nothing = tt; rest = refl }

module _ (Nothing : Work → Work → Type 0) (old now : List Sight) (i : ℕ) (have : HaveNone Nothing i old now) (p new : Sight) (at : slice_get now i ≡ Some p)
    (stands : slice_get (set now i new) i ≡ Some new) where
  at-old : slice_get old i ≡ Some p
  at-old = get-drop old i ∙ ap (λ (xs : List Sight). slice_get xs 0) (sym have.rest) ∙ sym (get-drop now i) ∙ at

  rest-is : drop (suc i) (set now i new) ≡ drop (suc i) old
  rest-is = set-drop now i new ∙ drop-next now i ∙ ap (λ (xs : List Sight). drop 1 xs) have.rest ∙ sym (drop-next old i)

  plus : i + 1 ≡ suc i
  plus = omega arith

  none-next : Visits Nothing p new → HaveNone Nothing (i + 1) old (set now i new)
  none-next visit = subst (λ (n : ℕ). HaveNone Nothing n old (set now i new)) (sym plus)
      (record {
        nothing =
            subst (λ (xs : List Sight). AllZip (Visits Nothing) xs (take (suc i) (set now i new))) (sym (take-next old i p at-old))
            (subst (λ (ys : List Sight). AllZip (Visits Nothing) (take i old ++ p ∷ []) ys) (sym (take-next (set now i new) i new stands ∙ ap (λ (zs : List Sight). zs ++ new ∷ []) (set-take now i new)))
            (zip-push (Visits Nothing) (take i old) (take i now) p new have.nothing visit));
        rest = rest-is;
      })

  takes-at : (This : Work → Work → Type 0) → Visits This p new → TakesAt Nothing This i old (set now i new)
  takes-at This visit = record {
    nothing = subst (λ (ys : List Sight). AllZip (Visits Nothing) (take i old) ys) (sym (set-take now i new)) have.nothing;
    before = p;
    there = at-old;
    after = new;
    here = stands;
    this = visit;
    rest = subst (λ (n : ℕ). drop n (set now i new) ≡ drop n old) (sym plus) rest-is;
  }

-- ---- a room's machines are entered, one after the other
-- so many were entered, and had nothing to take
abbrev pub Enters : (Work → Work → Type 0) → ℕ → List Home → List Sight → List Sight → Type 0
Enters Nothing i room old now = AllZip SeesMore old now × IsPassOf room now × AreSame old now × HaveNone Nothing i old now

pub enters-none : (Nothing : Work → Work → Type 0) (room : List Home) (old : List Sight) → IsPassOf room old → Enters Nothing 0 room old old
enters-none Nothing room old locks = (all-same old, locks, refl, none-first Nothing old)

long-of : (room : List Home) (pass : List Sight) → IsPassOf room pass → length pass ≡ length room
long-of room pass locks = sym (length-map pass (λ (s : Sight). s.home)) ∙ ap (λ (hs : List Home). length hs) locks

pub enters-all : (Nothing : Work → Work → Type 0) (n : ℕ) (room : List Home) (old now : List Sight) → IsPassOf room old → Enters Nothing n room old now → length room ≤ n
    → AllZip (Visits Nothing) old now
enters-all Nothing n room old now locks before all = grind (arith, common_steps)

-- one more is entered
pub record EntersNext (Nothing : Work → Work → Type 0) (i : ℕ) (room : List Home) (old now : List Sight) (p new : Sight) : Type 0 where
  pub before : Enters Nothing i room old now
  pub within : i < length room
  pub is : p ≡ get_or now i p
  pub sees : SeesMore (get_or now i p) new

module _ {Nothing : Work → Work → Type 0} {i : ℕ} {room : List Home} {old now : List Sight} {p new : Sight} (next : EntersNext Nothing i room old now p new) where
  below : i < length now
  below = let long = long-of room now next.before.1 in omega (arith, long, next.within)

  stood : slice_get now i ≡ Some p
  stood = get-at now i p below next.is

  stands : slice_get (set now i new) i ≡ Some new
  stands = set-at now i new below

  pub entered : AllZip SeesMore old (set now i new) × IsPassOf room (set now i new) × AreSame old (set now i new)
  entered =
      let sees : SeesMore p new = subst (λ (s : Sight). SeesMore s new) (sym next.is) next.sees in
      let same : badge new ≡ badge p = sees-badge p new sees in
      (all-sees-set old now i p new next.before.0 stood sees, still-of room now i p new next.before.1 stood same, same-map badge now i p new stood same ∙ next.before.2)

  pub enters-next : Visits Nothing (get_or now i p) new → Enters Nothing (i + 1) room old (set now i new)
  enters-next visit =
      let one : Visits Nothing p new = subst (λ (s : Sight). Visits Nothing s new) (sym next.is) visit in
      (entered.0, entered.1, entered.2, none-next Nothing old now i next.before.3 p new stood stands one)

  pub takes-next : (This : Work → Work → Type 0) → Visits This (get_or now i p) new → TakesAt Nothing This i old (set now i new)
  takes-next This visit = takes-at Nothing old now i next.before.3 p new stood stands This (subst (λ (s : Sight). Visits This s new) (sym next.is) visit)

  -- what is known of it is known at its place
  pub knows-next : (Knows : List Entry → Type 0) → Knows (seen_of new) → OfSeen i (set now i new) Knows
  knows-next Knows knows = (new, stands, knows)
