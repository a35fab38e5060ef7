-- A machine among others: the names of tracks with one more, and of those with one changed.
use Rattle.std.proofs.Common.{◌≡◌, ℕ, suc, inl, inr, Bool, true, false, cond, List, [], ◌∷◌, ◌++◌, length, Some, None, refl, ap, ◌∙◌}
use Rattle.std.{specs.Prelude.{find, bytes_eq}, specs.List.AllByRecursion, specs.Cmp.Lexicographic.nat_list_eq_equiv, proofs.lemmas.Bool.cases_Bool}
use Rattle.track_model.specs.Tracks.{Track}
use Rattle.keep_rows.specs.Machines.{is_track, changed, IsOther, AreDifferent, names_of}

-- ---- one more
module _ (added : Track) where
  other_last : (name : List ℕ) (tracks : List Track) → bytes_eq added.machine name ≡ false → AllByRecursion (IsOther name) (names_of tracks)
      → AllByRecursion (IsOther name) (names_of (tracks ++ added ∷ []))
  other_last name [] miss others = (miss, tt)
  other_last name (t ∷ tracks) miss others = (others.0, other_last name tracks miss others.1)

  pub different_last : (tracks : List Track) → find (is_track added.machine) tracks ≡ None → AreDifferent (names_of tracks) → AreDifferent (names_of (tracks ++ added ∷ []))
  different_last [] none different = (tt, tt)
  different_last (t ∷ tracks) none different = by (is_track added.machine t) refl (λ miss. different_last tracks miss different.1) none
    where
      by : (b : Bool) → is_track added.machine t ≡ b → (find (is_track added.machine) tracks ≡ None → AreDifferent (names_of (tracks ++ added ∷ [])))
          → cond b (Some t) (find (is_track added.machine) tracks) ≡ None → AreDifferent (t.machine ∷ names_of (tracks ++ added ∷ []))
      by true is rest miss = absurd cc
      by false is rest miss = (other_last t.machine tracks (nat_list_eq_equiv.symm added.machine t.machine ∙ is) different.0, rest miss)

-- ---- one changed
module _ (machine : List ℕ) (change : Track → Track) where
  pub changed_names : ((t : Track) → (change t).machine ≡ t.machine) → (tracks : List Track) → names_of (changed machine change tracks) ≡ names_of tracks
  changed_names stays [] = refl
  changed_names stays (t ∷ tracks) = elim (cases_Bool (is_track machine t)) [
    | inl hit ↦ rw hit (ap (λ n. n ∷ names_of tracks) (stays t))
    | inr past ↦ rw past (ap (λ ns. t.machine ∷ ns) (changed_names stays tracks))
  ]

  pub changed_length : (tracks : List Track) → length (changed machine change tracks) ≡ length tracks
  changed_length [] = refl
  changed_length (t ∷ tracks) = elim (cases_Bool (is_track machine t)) [
    | inl hit ↦ rw hit refl
    | inr past ↦ rw past (ap suc (changed_length tracks))
  ]
