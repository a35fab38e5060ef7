-- What becomes of a machine at its place of a room, by what was done to it.
use Rattle.std.{proofs.Common.{List, sym, subst}, specs.Prelude.{IfOk, OnErr, Result, Ok, Err}, specs.List.AllZip}
use Rattle.track_state.specs.Work.{Work}
use Rattle.track_room.{specs.Asked.ChangesAt, specs.Sights.{Sight, SeesMore, Visits}, specs.Visits.DoesOrStays, proofs.Standing.sees-at}
use Rattle.track_room.proofs.Visiting.{visits-err, visits-ok}

module _ (place : _) (old new : List Sight) where
  pub changes-as : (P Q : Sight → Sight → Type 0) → ((s t : Sight) → P s t → Q s t) → ChangesAt place P old new → ChangesAt place Q old new
  changes-as P Q to c = record { before = c.before; there = c.there; after = c.after; becomes = to c.before c.after c.becomes; changed = c.changed }

  -- what is done where there is memory, and what is left where there is none
  module _ {A E : Type 0} (Does : A → Work → Work → Type 0) where
    pub changed-ok : (told : Result A E) → ChangesAt place (Visits (DoesOrStays Does told)) old new → IfOk told (λ x. ChangesAt place (Visits (Does x)) old new)
    changed-ok (Ok x) c =
        let told : Result A E = Ok x in
        changes-as (Visits (DoesOrStays Does told)) (Visits (Does x)) (λ s t v. visits-ok Does s t told v) c
    changed-ok (Err e) c = tt

    pub changed-err : (told : Result A E) → ChangesAt place (Visits (DoesOrStays Does told)) old new → OnErr told (AllZip SeesMore old new)
    changed-err (Ok x) c = tt
    changed-err (Err e) c =
        let told : Result A E = Err e in
        subst (λ (ss : List Sight). AllZip SeesMore old ss) (sym c.changed) (sees-at old place c.before c.after c.there (visits-err Does c.before c.after told c.becomes))
