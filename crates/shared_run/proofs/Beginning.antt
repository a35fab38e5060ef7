-- Private: no public contract cites this. The machines that a run begins with are different, and what they have was kept.
use Rattle.std.proofs.lemmas.Grind.{common_steps}
use Rattle.std.proofs.Common.{◌≡◌, ℕ, Bool, true, false, cond, List, [], ◌∷◌, ◌++◌, map, Option, Some, None, refl, sym, ap, subst, ◌∙◌, arith}
use Rattle.std.specs.{Prelude.{bytes_eq, find, is_some}, List.{AllByRecursion, AllZip}, Cmp.Lexicographic.nat_list_eq_equiv}
use Rattle.track_outside.specs.declared.keeper.Keeper as keeper
use Rattle.command_words.specs.Plans.{Plan}
use Rattle.history_model.specs.declared.entries.Author.TheVariants as author
use Rattle.history_model.specs.{declared.entries.Entry.Entry, declared.entries.Placed.Placed, Entries.entries_of}
use Rattle.track_model.specs.Tracks.{Track}
use Rattle.keep_rows.specs.{Kept.{kept, kept_entries, kept_of}, Machines.{AreDifferent, IsOther, is_track, names_of}, Loading.Stored}
use Rattle.worker_crew.specs.{Rooms.IsPassOf, Sights.{Home, IsFirstOf, Sight}, Gathered.AreKept}
use Rattle.worker_crew.specs.Seats as seats
use Rattle.shared_run.specs.{Beginnings.{AreStored, Begins, WasStarted}, Lists.{listed_track, with_listed, with_machine}}

-- ---- names
other-last : (name machine : List ℕ) (tracks : List Track) → bytes_eq machine name ≡ false → AllByRecursion (IsOther name) (names_of tracks)
    → AllByRecursion (IsOther name) (names_of (tracks ++ listed_track machine ∷ []))
other-last name machine [] miss others = (miss, tt)
other-last name machine (t ∷ tracks) miss others = (others.0, other-last name machine tracks miss others.1)

different-last : (machine : List ℕ) (tracks : List Track) → is_some (find (is_track machine) tracks) ≡ false → AreDifferent (names_of tracks)
    → AreDifferent (names_of (tracks ++ listed_track machine ∷ []))
different-last machine [] none different = (tt, tt)
different-last machine (t ∷ tracks) none different = by (is_track machine t) refl (λ miss. different-last machine tracks miss different.1) none
  where
    by : (b : Bool) → is_track machine t ≡ b → (is_some (find (is_track machine) tracks) ≡ false → AreDifferent (names_of (tracks ++ listed_track machine ∷ [])))
        → is_some (cond b (Some t) (find (is_track machine) tracks)) ≡ false → AreDifferent (t.machine ∷ names_of (tracks ++ listed_track machine ∷ []))
    by true is rest miss = absurd cc
    by false is rest miss = (other-last t.machine machine tracks (nat_list_eq_equiv.symm machine t.machine ∙ is) different.0, rest miss)

with-different : (machine : List ℕ) (tracks : List Track) → AreDifferent (names_of tracks) → AreDifferent (names_of (with_machine tracks machine))
with-different machine tracks different = grind (arith, common_steps, different-last)

listed-different : (list : List (List ℕ)) (tracks : List Track) → AreDifferent (names_of tracks) → AreDifferent (names_of (with_listed tracks list))
listed-different [] tracks different = different
listed-different (m ∷ list) tracks different = listed-different list (with_machine tracks m) (with-different m tracks different)

-- ---- kept entries
all-kept-entries : (h : List Entry) → AllByRecursion (λ (p : Placed). p.author ≡ author.Kept) (map kept h)
all-kept-entries [] = tt
all-kept-entries (e ∷ h) = (refl, all-kept-entries h)

all-kept : (tracks : List Track) → AllByRecursion (λ (t : Track). t ≡ kept_of t) tracks → AllByRecursion AreKept tracks
all-kept [] all = tt
all-kept (t ∷ tracks) all = (subst AreKept (sym all.0) (all-kept-entries (kept_entries (entries_of t.history))), all-kept tracks all.1)

with-kept : (machine : List ℕ) (tracks : List Track) → AllByRecursion AreKept tracks → AllByRecursion AreKept (with_machine tracks machine)
with-kept machine tracks all = grind (arith, common_steps)

listed-kept : (list : List (List ℕ)) (tracks : List Track) → AllByRecursion AreKept tracks → AllByRecursion AreKept (with_listed tracks list)
listed-kept [] tracks all = all
listed-kept (m ∷ list) tracks all = listed-kept list (with_machine tracks m) (with-kept m tracks all)

-- ---- the first machines
module _ {K : Type 0} (k : keeper.Ghosts K) where
  stored-different : (store : Option (List ℕ)) (before : K) (stored : Stored) → AreStored k store before stored → AreDifferent (names_of stored.machines)
  stored-different store before stored is = grind (arith, common_steps)

  stored-kept : (store : Option (List ℕ)) (before : K) (stored : Stored) → AreStored k store before stored → AllByRecursion AreKept stored.machines
  stored-kept store before stored is = grind (arith, common_steps, all-kept)

  pub first-different : (plan : Plan) (before : K) (began : Stored) → Begins k plan before began → AreDifferent (names_of began.machines)
  first-different plan before began b = grind (arith, common_steps, listed-different, stored-different)

  pub first-kept : (plan : Plan) (before : K) (began : Stored) → Begins k plan before began → AllByRecursion AreKept began.machines
  first-kept plan before began b = grind (arith, common_steps, listed-kept, stored-kept)

  pub was-started : (store : Option (List ℕ)) (before loaded after : K) → WasStarted k store before loaded → (store ≡ None → after ≡ loaded) → k.started after ≡ k.started loaded
      → WasStarted k store before after
  was-started store before loaded after was unnamed same = grind (arith, common_steps)

-- ---- the room that is made of them
others-of : (name first : List ℕ) → first ≡ name → (tracks : List Track) (pass : List Sight) → AllZip IsFirstOf tracks pass → AllByRecursion (IsOther name) (names_of tracks)
    → AllByRecursion (seats.IsOther first) (map (λ (s : Sight). s.home) pass)
others-of name first named [] [] all others = tt
others-of name first named [] (s ∷ pass) all others = absurd all
others-of name first named (t ∷ tracks) [] all others = absurd all
others-of name first named (t ∷ tracks) (s ∷ pass) all others =
    let machine : s.home.machine ≡ t.machine = ap (λ (u : Track). u.machine) all.0.0 in (
      ap (λ (m : List ℕ). bytes_eq first m) machine ∙ ap (λ (m : List ℕ). bytes_eq m t.machine) named ∙ nat_list_eq_equiv.symm name t.machine ∙ others.0,
      others-of name first named tracks pass all.1 others.1,
    )

pass-different : (tracks : List Track) (pass : List Sight) → AllZip IsFirstOf tracks pass → AreDifferent (names_of tracks) → seats.AreDifferent (map (λ (s : Sight). s.home) pass)
pass-different [] [] all different = tt
pass-different [] (s ∷ pass) all different = absurd all
pass-different (t ∷ tracks) [] all different = absurd all
pass-different (t ∷ tracks) (s ∷ pass) all different =
    (others-of t.machine s.home.machine (ap (λ (u : Track). u.machine) all.0.0) tracks pass all.1 different.0, pass-different tracks pass all.1 different.1)

pub room-different : (tracks : List Track) (room : List Home) (pass : List Sight) → IsPassOf room pass → AllZip IsFirstOf tracks pass → AreDifferent (names_of tracks) → seats.AreDifferent room
room-different tracks room pass of all different = subst seats.AreDifferent of (pass-different tracks pass all different)
