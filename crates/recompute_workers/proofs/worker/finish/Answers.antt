use Rattle.std.proofs.lemmas.Option.{slice_get_within}
use Rattle.history_model.specs.declared.entries.Author.{Author, TheVariants.Recompute}
use Rattle.track_room.{specs.Sights.{SeesMore, Visits}, specs.Taking.Publishes, proofs.Segments.made-of-taken}
use Rattle.recompute_workers.{specs.Works.Works, proofs.Working.{works-change, works-publishes, works-sees, works-trans, zip-from, zip-trans}}
use Rattle.recompute_workers.proofs.worker.finish.Goals as goal

pub release-requires-clause-there : goal.release-requires-clause-there
release-requires-clause-there g c = slice_get_within c.args.pass.now c.args.claim.machine c.requires.taken.0 c.requires.taken.1

pub returns-in-Err-clause-works : goal.returns-in-Err-clause-works
returns-in-Err-clause-works g c =
    let author : Author = Recompute c.args.number in
    works-change author c.args.claim.machine SeesMore (works-sees author) c.args.pass.now c.release.new.pass c.release.ensures.sees

pub publish-requires-clause-made : goal.publish-requires-clause-made
publish-requires-clause-made g c =
    made-of-taken c.publication_law.ensures.last_stands c.args.claim.machine c.args.pass.now (record { key = c.args.claim.key; snapshot = c.args.snapshot }) c.in-Ok.redone c.requires.taken c.in-Ok.ensures

pub returns-in_err-publish-clause-works : goal.returns-in_err-publish-clause-works
returns-in_err-publish-clause-works g c =
    let author : Author = Recompute c.args.number in
    let ends = c.in_err-publish.ensures.err in
    zip-trans (Works author) (works-trans author) c.args.pass.now ends.middle c.publish.new.pass
    (zip-from (Works author) SeesMore (works-sees author) c.args.pass.now ends.middle ends.sees)
    (works-change author c.args.claim.machine SeesMore (works-sees author) ends.middle c.publish.new.pass ends.still)

pub returns-clause-works : goal.returns-clause-works
returns-clause-works g c =
    let author : Author = Recompute c.args.number in
    works-change author c.args.claim.machine (Visits (Publishes author c.in-Ok.redone.done c.in_ok-publish.field-0))
    (λ a b visits. works-publishes author c.in-Ok.redone.done c.in_ok-publish.field-0 a b visits) c.args.pass.now c.publish.new.pass c.in_ok-publish.ensures.ok
