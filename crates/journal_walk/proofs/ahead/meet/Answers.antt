use Rattle.std.{proofs.Common.{◌≡◌, List, length, refl, sym, ap, ◌∙◌, arith, Some}, specs.Prelude.slice_get, proofs.lemmas.Grind.common_steps}
use Rattle.std.proofs.lemmas.Option.{slice_get_read, slice_get_within}
use Rattle.history_model.specs.declared.{entries.Entry.Entry, entries.Entry.TheVariants.Publish, entries.Placed.Placed, publication.Publication.Publication}
use Rattle.history_model.specs.Entries.{entries_of}
use Rattle.journal_walk.proofs.{Adding.met-next, Plans.{IsNeedOf, entry-at, entry-there, many, need-of}}
use Rattle.journal_walk.proofs.ahead.meet.Goals as goal

pub unreachable-requires : goal.unreachable-requires
unreachable-requires c =
    let es : List Entry = entries_of c.args.history.now in
    let keeps = c.requires.keeps.keeps in
    let is : IsNeedOf es c.args.need = need-of es c.args.ahead.now.needs.items keeps.plan c.args.ahead.now.met c.args.need c.requires.next in
    c.in_default.not-Publish is.publication
    (ap (λ (p : Placed). p.entry) (sym c.index-history-need.is)
    ∙ entry-at c.args.history.now c.args.need.place c.index-history-need.result (Publish is.publication) c.requires.inside c.index-history-need.is is.there)

pub put-requires-clause-met : goal.put-requires-clause-met
put-requires-clause-met c = slice_get_within c.args.ahead.now.needs.items c.args.ahead.now.met c.args.need c.requires.next

pub returns-clause-keeps : goal.returns-clause-keeps
returns-clause-keeps c =
    let es : List Entry = entries_of c.args.history.now in
    let h : List Entry = entries_of c.args.track.now.history in
    let p : Publication = c.get-p.result.now in
    let told : c.index-history-need.result.entry ≡ Publish c.get-p.result.now = grind (arith, common_steps) in
    let there : slice_get (entries_of c.args.history.now) c.args.need.place ≡ Some (Publish c.get-p.result.now) =
    entry-there c.args.history.now c.args.need.place c.index-history-need.result
    (slice_get_read c.args.history.now (length c.args.history.now) c.args.need.place c.index-history-need.result refl c.requires.inside c.index-history-need.is)
    ∙ ap (λ (e : Entry). Some e) told in
    met-next es h c.args.ahead.now c.put.new.self c.args.need p c.in_ok-found.found c.requires.keeps c.requires.next there
    (c.requires.now ∙ sym (many c.args.track.now.history)) c.in_ok-found.ensures.found
    c.put.ensures.needs c.put.ensures.met c.put.ensures.bases c.put.ensures.versions c.put.ensures.firsts
