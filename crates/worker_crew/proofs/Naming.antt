-- Private: no public contract cites this. The asks of a worker at a room, by the names of its machines.
use Rattle.std.proofs.Common.{◌≡◌, ◌≤◌, ◌+◌, ℕ, zero, suc, inl, inr, Bool, true, false, List, [], ◌∷◌, ◌++◌, length, map, refl, sym, ap, ap₂, subst, ◌∙◌, Option, Some, None, arith, eq-eqb, ne_eqb}
use Rattle.std.specs.{Prelude.{◌==◌, ◌&&◌, All, bytes_eq, filter, is_none, is_some, option_map, slice_get}, List.AllByRecursion}
use Rattle.std.proofs.lemmas.{Bool.cases_Bool, List.length-append, List.Elements.All-weaker, Slice.Eq.bytes_eq-Decides, Grind.common_steps}
use Rattle.track_outside.specs.Asked.{Ask}
use Rattle.history_lock.specs.{Marks.entries, declared.view.Marked.Marked}
use Rattle.history_model.specs.declared.entries.{Author.Author, Placed.Placed}
use Rattle.worker_model.specs.Findings.{Finding}
use Rattle.play_crew.specs.{Asked.names_of, Rooms.IsPassOf, Sights.{Home, Sight}, Seats.{AreDifferent, IsOther, mark_in, seen_in}}
use Rattle.bisect_workers.specs.Beside as beside
use Rattle.bisect_workers.specs.Beside.{BisectsAt, EachBisects, IsDueIn, found_at, given_up, is_number}
use Rattle.play_fits.{specs.Workers.{IsDue, Use, found_for, is_for}, proofs.Lists.same-bytes}
use Rattle.play_crew.proofs.Gathered.{at-contains, mapped-at}

pub eq-bytes : (xs : List ℕ) → bytes_eq xs xs ≡ true
eq-bytes xs = (bytes_eq-Decides xs xs).1 refl

same-some : {A : Type 0} (a b : A) → Some a ≡ Some b → a ≡ b
same-some a b is = cc

true-false : true ≡ false → ⊥
true-false is = cc

-- ---- one machine has a name
other-named : (name : List ℕ) (pass : List Sight) → AllByRecursion (IsOther name) (map (λ (s : Sight). s.home) pass) → (k : ℕ) (t : Sight) → slice_get pass k ≡ Some t → bytes_eq name t.home.machine ≡ false
other-named name [] all k t is = cc
other-named name (s ∷ pass) all zero t is = let same : s ≡ t = cc in subst (λ (u : Sight). bytes_eq name u.home.machine ≡ false) same all.0
other-named name (s ∷ pass) all (suc k) t is = other-named name pass all.1 k t is

pub named-once : (m : List ℕ) (pass : List Sight) → AreDifferent (map (λ (s : Sight). s.home) pass) → (k : ℕ) (s : Sight) → slice_get pass k ≡ Some s → bytes_eq s.home.machine m ≡ true
    → (j : ℕ) (t : Sight) → slice_get pass j ≡ Some t → bytes_eq t.home.machine m ≡ true → j ≡ k
named-once m [] apart k s is named j t at other = cc
named-once m (x ∷ pass) apart zero s is named zero t at other = refl
named-once m (x ∷ pass) apart (suc k) s is named (suc j) t at other = ap suc (named-once m pass apart.1 k s is named j t at other)
named-once m (x ∷ pass) apart zero s is named (suc j) t at other =
    let same : x ≡ s = cc in
    let x_is : x.home.machine ≡ m = same-bytes x.home.machine m (ap (λ (u : Sight). bytes_eq u.home.machine m) same ∙ named) in
    let t_is : t.home.machine ≡ m = same-bytes t.home.machine m other in
    absurd (true-false (sym (ap₂ (λ (a b : List ℕ). bytes_eq a b) x_is t_is ∙ eq-bytes m) ∙ other-named x.home.machine pass apart.0 j t at))
named-once m (x ∷ pass) apart (suc k) s is named zero t at other =
    let same : x ≡ t = cc in
    let x_is : x.home.machine ≡ m = same-bytes x.home.machine m (ap (λ (u : Sight). bytes_eq u.home.machine m) same ∙ other) in
    let s_is : s.home.machine ≡ m = same-bytes s.home.machine m named in
    absurd (true-false (sym (ap₂ (λ (a b : List ℕ). bytes_eq a b) x_is s_is ∙ eq-bytes m) ∙ other-named x.home.machine pass apart.0 k s is))

-- ---- uses by name
abbrev pub machine_at : List Sight → Option ℕ → Option (List ℕ)
machine_at pass None = None
machine_at pass (Some k) = option_map (λ (s : Sight). s.home.machine) (slice_get pass k)

abbrev pub named_use : List Sight → beside.Use → Use
named_use pass u = record { ask = u.ask; machine = machine_at pass u.place }

module _ (m : List ℕ) (pass : List Sight) (apart : AreDifferent (map (λ (s : Sight). s.home) pass)) (k : ℕ) (s : Sight) (is : slice_get pass k ≡ Some s) (named : bytes_eq s.home.machine m ≡ true) where
  for-place : (a : Ask) (o : Option ℕ) → is_for m (record { ask = a; machine = machine_at pass o }) ≡ is_number k o
  for-place a None = refl
  for-place a (Some j) = by (slice_get pass j) refl
    where
      by : (o : Option Sight) → slice_get pass j ≡ o → is_for m (record { ask = a; machine = option_map (λ (u : Sight). u.home.machine) (slice_get pass j) }) ≡ (j == k)
      by None at =
          let no : j ≡ k → ⊥ = (λ same. none-some (sym at ∙ ap (λ (i : ℕ). slice_get pass i) same ∙ is)) in
          ap (λ (o : Option Sight). is_for m (record { ask = a; machine = option_map (λ (u : Sight). u.home.machine) o })) at ∙ sym (ne_eqb j k no)
        where
          none-some : None ≡ Some s → ⊥
          none-some same = cc
      by (Some t) at =
          ap (λ (o : Option Sight). is_for m (record { ask = a; machine = option_map (λ (u : Sight). u.home.machine) o })) at
          ∙ elim (cases_Bool (bytes_eq t.home.machine m)) [
            | inl yes_is ↦ yes_is ∙ sym (eq-eqb j k (named-once m pass apart k s is named j t at yes_is))
            | inr no_is ↦
                no_is
                ∙ sym (ne_eqb j k (λ same. true-false (sym (ap (λ (u : Sight). bytes_eq u.home.machine m) (same-some t s (sym at ∙ ap (λ (i : ℕ). slice_get pass i) same ∙ is)) ∙ named) ∙ no_is)))
          ]

  -- what was found for a machine is what was found at its place
  pub found-named : (uses : List beside.Use) → found_for m (map (named_use pass) uses) ≡ found_at k uses
  found-named [] = refl
  found-named (u ∷ uses) = by (found-named uses) (is_number k u.place) refl
    where
      by : found_for m (map (named_use pass) uses) ≡ found_at k uses → (b : Bool) → is_number k u.place ≡ b → found_for m (map (named_use pass) (u ∷ uses)) ≡ found_at k (u ∷ uses)
      by rest true here = let there = for-place u.ask u.place in simp (there, here) (ap (λ (l : List Finding). beside.found_by u ∷ l) rest)
      by rest false here = let there = for-place u.ask u.place in simp (there, here) rest

-- ---- what was given up
abbrev pub is_given : Use → Bool
is_given u = is_some u.machine && is_none u.ask.status

abbrev pub given : List Use → ℕ
given uses = length (filter is_given uses)

pub given-named : (pass : List Sight) (uses : List beside.Use) → given (map (named_use pass) uses) ≤ given_up uses
given-named pass [] = omega arith
given-named pass (u ∷ uses) = grind (arith, common_steps, given-named pass uses)

pub asks-named : (pass : List Sight) (uses : List beside.Use) → map (λ (u : Use). u.ask) (map (named_use pass) uses) ≡ beside.asks_of uses
asks-named pass [] = refl
asks-named pass (u ∷ uses) = ap (λ (l : List Ask). u.ask ∷ l) (asks-named pass uses)

-- ---- what was due
module _ (word : List ℕ) (room : List Home) (pass : List Sight) (of : IsPassOf room pass) (machines : List (List ℕ)) (names : machines ≡ names_of room) (journal : List ℕ → List Placed)
    (own : AllByRecursion (λ (s : Sight). seen_in pass s.home.machine ≡ s.seen) pass) (more : List ℕ → List Placed) (on : (m : List ℕ) → journal m ≡ entries (seen_in pass m) ++ more m) where
  own-at : (xs : List Sight) (k : ℕ) (s : Sight) → AllByRecursion (λ (u : Sight). seen_in pass u.home.machine ≡ u.seen) xs → slice_get xs k ≡ Some s → seen_in pass s.home.machine ≡ s.seen
  own-at [] k s all is = cc
  own-at (x ∷ xs) zero s all is = let same : x ≡ s = cc in subst (λ (u : Sight). seen_in pass u.home.machine ≡ u.seen) same all.0
  own-at (x ∷ xs) (suc k) s all is = own-at xs k s all.1 is

  due-one : (ask : Ask) → IsDueIn word pass ask → IsDue word machines journal ask
  due-one ask d =
      let s : Sight = d.sight in
      let name : List ℕ = s.home.machine in
      let begins : journal name ≡ entries s.seen ++ more name = on name ∙ ap (λ (l : List (Marked Placed)). entries l ++ more name) (own-at pass d.place s own d.there) in
      let size = length-append (entries s.seen) (more name) in
      let within = d.due.within in
      let home : slice_get room d.place ≡ Some s.home = ap (λ (l : List Home). slice_get l d.place) (sym of) ∙ mapped-at (λ (u : Sight). u.home) pass d.place s d.there in
      let there : slice_get machines d.place ≡ Some name = ap (λ (l : List (List ℕ)). slice_get l d.place) names ∙ mapped-at (λ (h : Home). h.machine) room d.place s.home home in
      record {
        of_test = d.due.of_test;
        machine = name;
        declared = at-contains machines d.place name there;
        count = d.due.count;
        within = let long : length (journal name) ≡ length (entries s.seen ++ more name) = ap length begins in omega (arith, size, within, long);
        asked = grind (arith, common_steps);
      }

  pub due-named : (asks : List Ask) → All (IsDueIn word pass) asks → All (IsDue word machines journal) asks
  due-named asks all = All-weaker (IsDueIn word pass) (IsDue word machines journal) due-one asks all

-- ---- a machine at its place
-- what a pass that bisects has of the machine of this name
pub record BisectedIn (w : Author) (uses : List beside.Use) (start : ℕ) (before after : List Sight) (m : List ℕ) : Type 0 where
  pub place : ℕ
  pub old : Sight
  pub new : Sight
  pub there : slice_get after place ≡ Some new
  pub named : bytes_eq new.home.machine m ≡ true
  pub was : seen_in before m ≡ old.seen
  pub now : seen_in after m ≡ new.seen
  pub mark : mark_in after m ≡ new.mark
  pub at : BisectsAt w uses (start + place) old new

-- it has none of another name
pub bisected-in : (w : Author) (uses : List beside.Use) (start : ℕ) (before after : List Sight) → EachBisects w uses start before after → (m : List ℕ) (k : ℕ) (t : Sight) → slice_get after k ≡ Some t → bytes_eq t.home.machine m ≡ true
    → BisectedIn w uses start before after m
bisected-in w uses start [] [] each m k t is named = grind (arith, common_steps)
bisected-in w uses start [] (x ∷ after) each m k t is named = absurd each
bisected-in w uses start (y ∷ before) [] each m k t is named = absurd each
bisected-in w uses start (y ∷ before) (x ∷ after) each m k t is named = by (bytes_eq x.home.machine m) refl (λ j u at yes_is. bisected-in w uses (suc start) before after each.1 m j u at yes_is) k is
  where
    home : x.home.machine ≡ y.home.machine
    home = ap (λ (u : Sight). u.home.machine) each.0.sees

    zero-start : start + zero ≡ start
    zero-start = omega arith

    by : (b : Bool) → bytes_eq x.home.machine m ≡ b → ((j : ℕ) (u : Sight) → slice_get after j ≡ Some u → bytes_eq u.home.machine m ≡ true → BisectedIn w uses (suc start) before after m) → (j : ℕ) → slice_get (x ∷ after) j ≡ Some t → BisectedIn w uses start (y ∷ before) (x ∷ after) m
    by true here rest j at =
        let there : bytes_eq y.home.machine m ≡ true = ap (λ (n : List ℕ). bytes_eq n m) (sym home) ∙ here in
        record { place = 0; old = y; new = x; there = refl; named = here; was = simp there refl; now = simp here refl; mark = simp here refl; at = subst (λ (n : ℕ). BisectsAt w uses n y x) (sym zero-start) each.0 }
    by false here rest zero at = absurd (true-false (sym (ap (λ (u : Sight). bytes_eq u.home.machine m) (same-some x t at) ∙ named) ∙ here))
    by false here rest (suc j) at =
        let there : bytes_eq y.home.machine m ≡ false = ap (λ (n : List ℕ). bytes_eq n m) (sym home) ∙ here in
        let r : BisectedIn w uses (suc start) before after m = rest j t at named in
        let next : start + suc r.place ≡ suc start + r.place = omega arith in
        record {
          place = suc r.place;
          old = r.old;
          new = r.new;
          there = r.there;
          named = r.named;
          was = simp there r.was;
          now = simp here r.now;
          mark = simp here r.mark;
          at = subst (λ (n : ℕ). BisectsAt w uses n r.old r.new) (sym next) r.at;
        }
