use Rattle.std.{proofs.Common.{◌≡◌, List, Option, Some, arith}, specs.Prelude.IfSome, proofs.lemmas.Grind.common_steps}
use Rattle.history_model.specs.declared.entries.Author.{Author, TheVariants.Recompute}
use Rattle.track_room.specs.{Claims.{Claimed, taken_with}, Sights.{SeesMore, Sight}, Taking.{IsTaken, OfSeen}, Snapshot.Snapshot}
use Rattle.recompute_workers.{specs.Works.Works, proofs.Working.{works-sees, works-trans, zip-from, zip-trans}}
use Rattle.recompute_workers.proofs.worker.turn.Goals as goal

pub returns-in_err-claim-clause-works : goal.returns-in_err-claim-clause-works
returns-in_err-claim-clause-works g c = grind (arith, common_steps, zip-from, works-sees)

pub returns-in_default-clause-works : goal.returns-in_default-clause-works
returns-in_default-clause-works g c = grind (arith, common_steps, zip-from, works-sees)

taken-at : (claim : Claimed) (snapshot : Snapshot) (pass : List Sight) (o : Option (Claimed × Snapshot)) → o ≡ Some (claim, snapshot)
    → IfSome o (λ t. OfSeen t.0.machine pass (λ h. IsTaken h (taken_with t))) → OfSeen claim.machine pass (λ h. IsTaken h (record { key = claim.key; snapshot = snapshot }))
taken-at claim snapshot pass o is has = grind (arith, common_steps)

pub returns-in_err-finish-clause-works : goal.returns-in_err-finish-clause-works
returns-in_err-finish-clause-works g c =
    let author : Author = Recompute c.args.number in
    zip-trans (Works author) (works-trans author) c.args.pass.now c.take_series.new.pass c.finish.new.pass
    (zip-from (Works author) SeesMore (works-sees author) c.args.pass.now c.take_series.new.pass c.take_series.ensures.sees) c.finish.ensures.works

pub returns-clause-works : goal.returns-clause-works
returns-clause-works g c =
    let author : Author = Recompute c.args.number in
    zip-trans (Works author) (works-trans author) c.args.pass.now c.take_series.new.pass c.finish.new.pass
    (zip-from (Works author) SeesMore (works-sees author) c.args.pass.now c.take_series.new.pass c.take_series.ensures.sees) c.finish.ensures.works
