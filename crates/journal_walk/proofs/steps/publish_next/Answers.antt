use Rattle.std.proofs.{Common.{◌≡◌, ◌+◌, List, length, ap, subst, arith}, lemmas.Grind.common_steps}
use Rattle.history_model.specs.declared.{entries.Entry.Entry, entries.Entry.TheVariants.Publish, publication.Publication.Publication}
use Rattle.history_model.specs.{Allowed.Allowed, Entries.entries_of}
use Rattle.machine_state.specs.Made.{publication_from}
use Rattle.journal_walk.{specs.Ahead.KeepsAhead, specs.Made.IsMadeFor, specs.Steps.Publishes, proofs.Adding.{gone, grown, stays}, proofs.Plans.many}
use Rattle.journal_walk.proofs.Ready.{of-bases, of-versions}
use Rattle.journal_walk.proofs.steps.publish_next.Goals as goal

pub returns-in_default-2-clause-none : goal.returns-in_default-2-clause-none
returns-in_default-2-clause-none c =
    let made : IsMadeFor (entries_of c.args.track.now.history) c.args.p.now c.in-Some.made = rw c.in-Some.is at c.in_ok-made.ensures.some in
    let none : ¬ Allowed (entries_of c.args.track.now.history) (Publish (publication_from c.in-Some.made.done)) = rw c.in_default-2.is at c.in_ok-reply.ensures.none in
    subst (λ (q : Publication). ¬ Allowed (entries_of c.args.track.now.history) (Publish q)) made.is none

pub let_go-requires-clause-base : goal.let_go-requires-clause-base
let_go-requires-clause-base c =
    let inside = of-bases (entries_of c.args.history.now) (entries_of c.args.track.now.history) c.args.ahead.now c.args.p.now c.requires in
    omega (arith, inside, c.len-place.ensures, many c.args.track.now.history)

pub let_go-requires-clause-version : goal.let_go-requires-clause-version
let_go-requires-clause-version c =
    let inside = of-versions (entries_of c.args.history.now) (entries_of c.args.track.now.history) c.args.ahead.now c.args.p.now c.requires in
    omega (arith, inside, c.len-place.ensures, many c.args.track.now.history)

pub returns-clause-keeps : goal.returns-clause-keeps
returns-clause-keeps c =
    let es : List Entry = entries_of c.args.history.now in
    let h : List Entry = entries_of c.args.track.now.history in
    let h' : List Entry = entries_of c.publish.new.track.history in
    let e : Entry = Publish (publication_from c.in-Some.made.done) in
    let added : Publishes c.args.track.now (publication_from c.in-Some.made.done) c.publish.new.track c.in-Some-2.reply = rw c.in-Some-2.is at c.in_ok-reply.ensures.published in
    let kept : KeepsAhead es h' c.args.ahead.now = grown es h h' e c.args.ahead.now c.requires.kept c.requires.all_met added.grown in
    let size : length (entries_of c.publish.new.track.history) ≡ length (entries_of c.args.track.now.history) + 1 = grind (arith, common_steps) in
    stays es h' (entries_of c.keep-kept.new.track.history) c.let_go.new.self
    (gone es h' c.len-place.result c.args.ahead.now c.let_go.new.self kept (omega (arith, size, c.len-place.ensures, many c.args.track.now.history))
    c.let_go.ensures.needs c.let_go.ensures.met c.let_go.ensures.bases c.let_go.ensures.versions c.let_go.ensures.firsts)
    (ap entries_of c.keep-kept.ensures.history)
