-- The first track of a machine.
use Rattle.std.proofs.Common.{◌≡◌, ℕ, zero, suc, ◌≤◌, true, false, cond, List, [], ◌∷◌, length, refl, ap, sym, subst, Some, None, arith}
use Rattle.std.specs.Prelude.{find, slice_get, set}
use Rattle.track_model.specs.Tracks.{Track}
use Rattle.keep_rows.specs.{Machines.{is_track, changed}, Places.NoneBefore}

pub found_at : (machine : List ℕ) (tracks : List Track) (i : ℕ) (t : Track)
    → NoneBefore machine tracks i → slice_get tracks i ≡ Some t → is_track machine t ≡ true → find (is_track machine) tracks ≡ Some t
found_at machine [] i t others at is = absurd cc
found_at machine (x ∷ tracks) zero t others at is =
    let same : x ≡ t = cc in
    subst (λ y. cond (is_track machine y) (Some y) (find (is_track machine) tracks) ≡ Some t) (sym same) (rw is refl)
found_at machine (x ∷ tracks) (suc i) t others at is = rw others.0 (found_at machine tracks i t others.1 at is)

pub changed_at : (machine : List ℕ) (tracks : List Track) (i : ℕ) (t : Track) (f : Track → Track)
    → NoneBefore machine tracks i → slice_get tracks i ≡ Some t → is_track machine t ≡ true → changed machine f tracks ≡ set tracks i (f t)
changed_at machine [] i t f others at is = absurd cc
changed_at machine (x ∷ tracks) zero t f others at is =
    let same : x ≡ t = cc in
    subst (λ y. cond (is_track machine y) (f y ∷ tracks) (y ∷ changed machine f tracks) ≡ f t ∷ tracks) (sym same) (rw is refl)
changed_at machine (x ∷ tracks) (suc i) t f others at is = rw others.0 (ap (λ ts. x ∷ ts) (changed_at machine tracks i t f others.1 at is))

pub none_before : (machine : List ℕ) (tracks : List Track) (i : ℕ) (t : Track)
    → NoneBefore machine tracks i → slice_get tracks i ≡ Some t → is_track machine t ≡ false → NoneBefore machine tracks (suc i)
none_before machine [] i t others at is = tt
none_before machine (x ∷ tracks) zero t others at is =
    let same : x ≡ t = cc in
    (subst (λ y. is_track machine y ≡ false) (sym same) is, tt)
none_before machine (x ∷ tracks) (suc i) t others at is = (others.0, none_before machine tracks i t others.1 at is)

pub none_found : (machine : List ℕ) (tracks : List Track) (i : ℕ) → NoneBefore machine tracks i → length tracks ≤ i → find (is_track machine) tracks ≡ None
none_found machine [] i others past = refl
none_found machine (x ∷ tracks) zero others past = absurd (omega (arith, past))
none_found machine (x ∷ tracks) (suc i) others past = rw others.0 (none_found machine tracks i others.1 (omega (arith, past)))
