-- What a walk keeps for publications that are to come: at its beginning, as needs are met, and as entries are added.
use Rattle.std.proofs.lemmas.Grind.{common_steps}
use Rattle.std.proofs.Common.{◌≡◌, ◌≢◌, ℕ, zero, suc, ◌+◌, ◌<◌, ◌≤◌, Bool, true, false, cond, List, [], ◌∷◌, ◌++◌, length, take, set, replicate, inl, inr, refl, sym, ap, ◌∙◌, subst, arith, Option, Some, None}
use Rattle.std.{specs.Prelude.{slice_get, ◌⊎◌}, proofs.lemmas.List.{length-append, length-set, take-append-le, take_all}, proofs.lemmas.Option.slice_get_within}
use Rattle.history_model.specs.declared.{entries.Entry.Entry, entries.Entry.TheVariants.Publish, publication.Publication.Publication}
use Rattle.history_model.specs.{Publications.published, Runs.is_known}
use Rattle.journal_walk.specs.{Ahead.{AreThen, IsMet, Keeps, Slots, slots_of}, declared.needs.Need.Need, declared.version.Version.Version}
use Rattle.journal_walk.{specs.Needs.{IsPlan, time_of}, specs.Versions.{IsNow, IsOf}, proofs.Plans.{IsNeedOf, need-of, no-earlier}}

-- ---- lists
pub get-set : {A : Type 0} (xs : List A) (i : ℕ) (x : A) → i < length xs → slice_get (set xs i x) i ≡ Some x
get-set [] i x lt = absurd (omega (arith, lt))
get-set (y ∷ xs) zero x lt = refl
get-set (y ∷ xs) (suc i) x lt = get-set xs i x (omega (arith, lt))

pub get-set-other : {A : Type 0} (xs : List A) (i : ℕ) (x : A) (k : ℕ) → k ≢ i → slice_get (set xs i x) k ≡ slice_get xs k
get-set-other [] i x k other = refl
get-set-other (y ∷ xs) zero x zero other = absurd (other refl)
get-set-other (y ∷ xs) zero x (suc k) other = refl
get-set-other (y ∷ xs) (suc i) x zero other = refl
get-set-other (y ∷ xs) (suc i) x (suc k) other = get-set-other xs i x k (λ same. other (ap suc same))

none-at : {A : Type 0} (n k : ℕ) (x : A) → slice_get (replicate n None) k ≡ Some (Some x) → ⊥
none-at zero k x there = cc
none-at (suc n) zero x there = let no : None ≡ Some x = (let two : Some None ≡ Some (Some x) = there in cc) in cc
none-at (suc n) (suc k) x there = none-at n k x there

same-or-not : (k i : ℕ) → (k ≡ i) ⊎ (k ≢ i)
same-or-not zero zero = inl refl
same-or-not zero (suc i) = inr (λ same. absurd (omega (arith, same)))
same-or-not (suc k) zero = inr (λ same. absurd (omega (arith, same)))
same-or-not (suc k) (suc i) = grind (arith, common_steps, same-or-not k i)

-- ---- at the beginning
pub begins : (es : List Entry) (needs : List Need) → IsPlan es needs → (bases versions : Slots) → bases ≡ replicate (length es) None → versions ≡ replicate (length es) None
    → length bases ≡ length es → length versions ≡ length es → Keeps es [] needs 0 bases versions
begins es needs plan bases versions base version many-bases many-versions = grind (arith, common_steps, none-at, length, slice_get)

-- ---- an entry more
then-later : (es h : List Entry) (e : Entry) (is_base : Bool) (slots : Slots) → AreThen es h is_base slots → AreThen es (h ++ e ∷ []) is_base slots
then-later es h e is_base slots are place p x there is = grind (arith, common_steps)

met-later : (es h : List Entry) (e : Entry) (need : Need) (slots : Slots) → need.at ≤ length h → IsMet es h need slots → IsMet es (h ++ e ∷ []) need slots
met-later es h e need slots le met p there behind known =
    let more : length (h ++ e ∷ []) ≡ length h + 1 = length-append h (e ∷ []) in
    let same : take need.at (h ++ e ∷ []) ≡ take need.at h = take-append-le need.at h (e ∷ []) le in
    met p there (omega (arith, behind, more)) (ap (is_known (published p)) (sym same) ∙ known)

pub grows : (es h : List Entry) (e : Entry) (needs : List Need) (met : ℕ) (bases versions : Slots) → Keeps es h needs met bases versions
    → ((i : ℕ) (need : Need) → slice_get needs i ≡ Some need → met ≤ i → length h < need.at) → Keeps es (h ++ e ∷ []) needs met bases versions
grows es h e needs met bases versions keeps all =
    let more : length (h ++ e ∷ []) ≡ length h + 1 = length-append h (e ∷ []) in
    record {
      plan = keeps.plan;
      as_many_bases = keeps.as_many_bases;
      as_many_versions = keeps.as_many_versions;
      bases_are = then-later es h e true bases keeps.bases_are;
      versions_are = then-later es h e false versions keeps.versions_are;
      few = keeps.few;
      past = λ i need there lt. (let le = keeps.past i need there lt in omega (arith, le, more));
      are_met = λ i need there lt. met-later es h e need (slots_of need.is_base bases versions) (keeps.past i need there lt) (keeps.are_met i need there lt);
      to_come = λ i need there le. (let less = all i need there le in omega (arith, less, more));
    }

-- ---- what was kept for an entry that came is let go
then-less : (es h : List Entry) (is_base : Bool) (slots : Slots) (place : ℕ) → AreThen es h is_base slots → AreThen es h is_base (set slots place None)
then-less es h is_base slots place are k p x there is = elim (same-or-not k place) [
  | inl same ↦
      let lt : k < length (set slots place None) = slice_get_within (set slots place None) k (Some x) is in
      let size : length (set slots place None) ≡ length slots = length-set slots place None in
      let none : slice_get (set slots place None) place ≡ Some None = get-set slots place None (omega (arith, lt, size, same)) in
      absurd (let no : None ≡ Some x = cc in cc)
  | inr other ↦ are k p x there (sym (get-set-other slots place None k other) ∙ is)
]

met-less : (es h : List Entry) (need : Need) (slots : Slots) (place : ℕ) → place < length h → IsMet es h need slots → IsMet es h need (set slots place None)
met-less es h need slots place lt met p there behind known =
    let was = met p there behind known in
    (was.0, get-set-other slots place None need.place (λ same. absurd (omega (arith, same, lt, behind))) ∙ was.1)

pub lets-go : (es h : List Entry) (needs : List Need) (met place : ℕ) (bases versions : Slots) → place < length h → Keeps es h needs met bases versions
    → Keeps es h needs met (set bases place None) (set versions place None)
lets-go es h needs met place bases versions lt keeps = record {
  plan = keeps.plan;
  as_many_bases = length-set bases place None ∙ keeps.as_many_bases;
  as_many_versions = length-set versions place None ∙ keeps.as_many_versions;
  bases_are = then-less es h true bases place keeps.bases_are;
  versions_are = then-less es h false versions place keeps.versions_are;
  few = keeps.few;
  past = keeps.past;
  are_met = λ i need there before. of-kind need (keeps.are_met i need there before);
  to_come = keeps.to_come;
}
  where
    at-kind : (need : Need) (b : Bool) → IsMet es h need (slots_of b bases versions) → IsMet es h need (slots_of b (set bases place None) (set versions place None))
    at-kind need true was = met-less es h need bases place lt was
    at-kind need false was = met-less es h need versions place lt was

    of-kind : (need : Need) → IsMet es h need (slots_of need.is_base bases versions) → IsMet es h need (slots_of need.is_base (set bases place None) (set versions place None))
    of-kind need was = at-kind need need.is_base was

-- ---- the next need is met
module _ (es h : List Entry) (need : Need) (p : Publication) (there : slice_get es need.place ≡ Some (Publish p)) (now : need.at ≡ length h) (found : Option Version)
    (is-now : IsNow h (published p) found) where
  abbrev whole : take (length h) h ≡ h
  whole = take_all (length h) h (omega arith)

  same-publication : (q : Publication) → slice_get es need.place ≡ Some (Publish q) → q ≡ p
  same-publication q is = let two : Some (Publish q) ≡ Some (Publish p) = sym is ∙ there in cc

  found-is : (x : Version) → found ≡ Some x → IsOf h (published p) x
  found-is x is = subst (λ (o : Option Version). IsNow h (published p) o) is is-now

  -- where it was known something was found
  known-found : (o : Option Version) → IsNow h (published p) o → is_known (published p) h ≡ true → (x : Version) × (o ≡ Some x)
  known-found None unknown known = absurd (let no : false ≡ true = sym unknown ∙ known in cc)
  known-found (Some x) is known = (x, refl)

  then-put : (is_base : Bool) (slots : Slots) → time_of is_base p ≡ length h → AreThen es h is_base slots → AreThen es h is_base (set slots need.place found)
  then-put is_base slots time are k q x at is = elim (same-or-not k need.place) [
    | inl same ↦
        let lt : k < length (set slots need.place found) = slice_get_within (set slots need.place found) k (Some x) is in
        let size : length (set slots need.place found) ≡ length slots = length-set slots need.place found in
        let put : slice_get (set slots need.place found) need.place ≡ Some found = get-set slots need.place found (omega (arith, lt, size, same)) in
        let one : found ≡ Some x = cc in
        let q-is : q ≡ p = same-publication q (ap (slice_get es) (sym same) ∙ at) in
        let time-is : time_of is_base q ≡ length h = ap (time_of is_base) q-is ∙ time in
        let version : take (time_of is_base q) h ≡ h = ap (λ (n : ℕ). take n h) time-is ∙ whole in (
          omega (arith, time-is),
          subst (λ (v : List Entry). IsOf v (published q) x) (sym version) (subst (λ (r : Publication). IsOf h (published r) x) (sym q-is) (found-is x one)),
        )
    | inr other ↦ are k q x at (sym (get-set-other slots need.place found k other) ∙ is)
  ]

  -- the need itself is met, and any other of that place and kind
  met-put : (other : Need) (slots : Slots) → other.place ≡ need.place → other.at ≡ length h → need.place < length slots → IsMet es h other (set slots need.place found)
  met-put other slots place at lt q q-there behind known =
      let q-is : q ≡ p = same-publication q (ap (slice_get es) (sym place) ∙ q-there) in
      let known-now : is_known (published p) h ≡ true = grind (arith, common_steps) in
      let x = known-found found is-now known-now in
      (x.0, ap (slice_get (set slots need.place found)) place ∙ get-set slots need.place found lt ∙ ap Some x.1)

  met-beside : (other : Need) (slots : Slots) → other.place ≢ need.place → IsMet es h other slots → IsMet es h other (set slots need.place found)
  met-beside other slots place met q q-there behind known =
      let was = met q q-there behind known in
      (was.0, get-set-other slots need.place found other.place place ∙ was.1)

-- both kinds
module _ (es h : List Entry) (needs : List Need) (met : ℕ) (bases versions : Slots) (keeps : Keeps es h needs met bases versions) (need : Need) (next : slice_get needs met ≡ Some need)
    (p : Publication) (there : slice_get es need.place ≡ Some (Publish p)) (now : need.at ≡ length h) (found : Option Version) (is-now : IsNow h (published p) found) where
  time : time_of need.is_base p ≡ length h
  time =
      let is : IsNeedOf es need = need-of es needs keeps.plan met need next in
      let same : is.publication ≡ p = cc in
      sym (is.time ∙ ap (time_of need.is_base) same) ∙ now

  -- a need of the same kind and place is of the same time
  same-time : (i : ℕ) (other : Need) → slice_get needs i ≡ Some other → other.place ≡ need.place → other.is_base ≡ need.is_base → other.at ≡ length h
  same-time i other at place kind =
      let is : IsNeedOf es other = need-of es needs keeps.plan i other at in
      let same : is.publication ≡ p = cc in
      is.time ∙ ap (time_of other.is_base) same ∙ ap (λ (b : Bool). time_of b p) kind ∙ time

  -- it was met before, or it is this one
  which : (i : ℕ) (other : Need) → slice_get needs i ≡ Some other → i < met + 1 → (i < met) ⊎ (other ≡ need)
  which i other at lt = grind (arith, common_steps)

  -- of the same kind
  met-alike : (i : ℕ) (other : Need) (slots : Slots) → slice_get needs i ≡ Some other → i < met + 1 → other.is_base ≡ need.is_base → need.place < length slots
      → (i < met → IsMet es h other slots) → IsMet es h other (set slots need.place found)
  met-alike i other slots at lt kind fits was = elim (same-or-not other.place need.place) [
    | inl same ↦ met-put es h need p there now found is-now other slots same (same-time i other at same kind) fits
    | inr apart ↦ elim (which i other at lt) [
      | inl before ↦ met-beside es h need p there now found is-now other slots apart (was before)
      | inr it ↦ absurd (apart (ap (λ (n : Need). n.place) it))
    ]
  ]

  -- of the other kind
  met-unlike : (i : ℕ) (other : Need) (slots : Slots) → slice_get needs i ≡ Some other → i < met + 1 → other.is_base ≢ need.is_base → (i < met → IsMet es h other slots)
      → IsMet es h other slots
  met-unlike i other slots at lt kind was = elim (which i other at lt) [
    | inl before ↦ was before
    | inr it ↦ absurd (kind (ap (λ (n : Need). n.is_base) it))
  ]

  true-false : (a b : Bool) → a ≡ true → b ≡ false → a ≢ b
  true-false a b x y same = let no : true ≡ false = sym x ∙ same ∙ y in cc

  met-of : (b : Bool) (i : ℕ) (other : Need) → other.is_base ≡ b → IsMet es h other (slots_of other.is_base bases versions) → IsMet es h other (slots_of b bases versions)
  met-of b i other kind was = subst (λ (c : Bool). IsMet es h other (slots_of c bases versions)) kind was

  inside : need.place < length es
  inside = slice_get_within es need.place (Publish p) there

  first-ones : met < length needs
  first-ones = slice_get_within needs met need next

  later-ones : (i : ℕ) (other : Need) → slice_get needs i ≡ Some other → met + 1 ≤ i → length h ≤ other.at
  later-ones i other at le = keeps.to_come i other at (omega (arith, le))

  so-far : (i : ℕ) (other : Need) → slice_get needs i ≡ Some other → i < met + 1 → other.at ≤ length h
  so-far i other at lt = grind (arith, common_steps)

  -- slots that meet one need more keep
  kept-with : (bases' versions' : Slots) → length bases' ≡ length es → length versions' ≡ length es → AreThen es h true bases' → AreThen es h false versions'
      → ((i : ℕ) (other : Need) → slice_get needs i ≡ Some other → i < met + 1 → (b : Bool) → other.is_base ≡ b → IsMet es h other (slots_of b bases' versions'))
      → Keeps es h needs (met + 1) bases' versions'
  kept-with bases' versions' many-bases many-versions bases-are versions-are each = record {
    plan = keeps.plan;
    as_many_bases = many-bases;
    as_many_versions = many-versions;
    bases_are = bases-are;
    versions_are = versions-are;
    few = omega (arith, first-ones);
    past = so-far;
    are_met = λ i other at lt. each i other at lt other.is_base refl;
    to_come = later-ones;
  }

  base-met : need.is_base ≡ true → Keeps es h needs (met + 1) (set bases need.place found) versions
  base-met kind =
      let many = keeps.as_many_bases in
      kept-with (set bases need.place found) versions (length-set bases need.place found ∙ keeps.as_many_bases) keeps.as_many_versions
      (then-put es h need p there now found is-now true bases (sym (ap (λ (b : Bool). time_of b p) kind) ∙ time) keeps.bases_are) keeps.versions_are
      (of-kind (omega (arith, many, inside)))
    where
      of-kind : need.place < length bases → (i : ℕ) (other : Need) → slice_get needs i ≡ Some other → i < met + 1 → (b : Bool) → other.is_base ≡ b
          → IsMet es h other (slots_of b (set bases need.place found) versions)
      of-kind fits i other at lt true is = met-alike i other bases at lt (is ∙ sym kind) fits (λ before. met-of true i other is (keeps.are_met i other at before))
      of-kind fits i other at lt false is =
          met-unlike i other versions at lt (λ same. true-false need.is_base other.is_base kind is (sym same)) (λ before. met-of false i other is (keeps.are_met i other at before))

  version-met : need.is_base ≡ false → Keeps es h needs (met + 1) bases (set versions need.place found)
  version-met kind =
      let many = keeps.as_many_versions in
      kept-with bases (set versions need.place found) keeps.as_many_bases (length-set versions need.place found ∙ keeps.as_many_versions) keeps.bases_are
      (then-put es h need p there now found is-now false versions (sym (ap (λ (b : Bool). time_of b p) kind) ∙ time) keeps.versions_are)
      (of-kind (omega (arith, many, inside)))
    where
      of-kind : need.place < length versions → (i : ℕ) (other : Need) → slice_get needs i ≡ Some other → i < met + 1 → (b : Bool) → other.is_base ≡ b
          → IsMet es h other (slots_of b bases (set versions need.place found))
      of-kind fits i other at lt false is = met-alike i other versions at lt (is ∙ sym kind) fits (λ before. met-of false i other is (keeps.are_met i other at before))
      of-kind fits i other at lt true is =
          met-unlike i other bases at lt (true-false other.is_base need.is_base is kind) (λ before. met-of true i other is (keeps.are_met i other at before))

  pub meets : (bases' versions' : Slots) → bases' ≡ cond need.is_base (set bases need.place found) bases → versions' ≡ cond need.is_base versions (set versions need.place found)
      → Keeps es h needs (met + 1) bases' versions'
  meets bases' versions' base version = at need.is_base refl
    where
      at : (b : Bool) → need.is_base ≡ b → Keeps es h needs (met + 1) bases' versions'
      at true kind =
          subst (λ (l : Slots). Keeps es h needs (met + 1) l versions') (sym (base ∙ ap (λ (b : Bool). cond b (set bases need.place found) bases) kind))
          (subst (λ (l : Slots). Keeps es h needs (met + 1) (set bases need.place found) l)
          (sym (version ∙ ap (λ (b : Bool). cond b versions (set versions need.place found)) kind)) (base-met kind))
      at false kind =
          subst (λ (l : Slots). Keeps es h needs (met + 1) l versions') (sym (base ∙ ap (λ (b : Bool). cond b (set bases need.place found) bases) kind))
          (subst (λ (l : Slots). Keeps es h needs (met + 1) bases l)
          (sym (version ∙ ap (λ (b : Bool). cond b versions (set versions need.place found)) kind)) (version-met kind))

-- ---- all needs up to now are met
-- where the next one is to come later, so are those behind it
pub all-later : (es h : List Entry) (needs : List Need) (met : ℕ) (bases versions : Slots) → Keeps es h needs met bases versions
    → (next : Need) → slice_get needs met ≡ Some next → length h < next.at
    → (i : ℕ) (need : Need) → slice_get needs i ≡ Some need → met ≤ i → length h < need.at
all-later es h needs met bases versions keeps next there later i need at le =
    let up : next.at ≤ need.at = no-earlier es needs keeps.plan met i next need there at le in
    omega (arith, later, up)

-- and where there is none
pub none-later : (h : List Entry) (needs : List Need) (met : ℕ) → length needs ≤ met → (i : ℕ) (need : Need) → slice_get needs i ≡ Some need → met ≤ i → length h < need.at
none-later h needs met all i need at le = absurd (let lt = slice_get_within needs i need at in omega (arith, lt, all, le))
