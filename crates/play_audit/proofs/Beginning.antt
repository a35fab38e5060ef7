-- Private: no public contract cites this. A script's way whose walk begins where it is wanted.
use Rattle.std.{proofs.lemmas.Grind.common_steps, proofs.Common.{◌≡◌, ℕ, true, false, List, Option, Some, None, refl, arith}, specs.Prelude.is_some}
use Rattle.history_model.specs.declared.entries.Placed.{Placed}
use Rattle.track_model.specs.Tracks.{new_track}
use Rattle.journal_walk.specs.{Laws.BeginsAlong, Walks.Walked}
use Rattle.play_audit.specs.{Places.{IsBy, IsPlace, IsWay, Walks}, declared.place.Place.Place}

-- it has a walk
pub walks_on : (machine : List ℕ) (history : List Placed) (p : Place) → is_some p.walk ≡ true → IsPlace machine history p → Walks machine history p
walks_on machine history p some place = of p.walk refl some place
  where
    of : (o : Option Walked) → p.walk ≡ o → is_some o ≡ true → IsWay machine history p.known o → Walks machine history p
    of None is there way = absurd (let no : false ≡ true = there in cc)
    of (Some w) is there way = record { walk = w; is = is; by = way }

-- or a new one
pub walks_new : BeginsAlong → (machine : List ℕ) (history : List Placed) (p : Place) (name : List ℕ) (w : Walked) → IsPlace machine history p → name ≡ machine
    → w ≡ record { history = history; track = new_track name true } → IsBy machine history p.known w
walks_new begins machine history p name w place same is = grind (arith, common_steps)
