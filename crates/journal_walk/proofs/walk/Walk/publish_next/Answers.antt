use Rattle.std.{proofs.Common.{◌≡◌, List, length, sym, ap, ◌∙◌, subst, Some, arith}, specs.Prelude.slice_get, proofs.lemmas.Grind.common_steps}
use Rattle.history_model.specs.declared.{entries.Entry.TheVariants.Publish, entries.Placed.Placed, publication.Publication.Publication}
use Rattle.history_model.specs.{Allowed.Allowed, Entries.entries_of}
use Rattle.journal_walk.{specs.Steps.Publishes, specs.Walks.{IsPublishedNext, PublishesNothing, Walked}, proofs.walk.Walk.publish_next.Goals.After-get-p}
use Rattle.journal_walk.proofs.Going.{Met, if-more, item-at, none-more, nothing-published, published-next, ready, walk}
use Rattle.journal_walk.proofs.walk.Walk.publish_next.Goals as goal

met-is : (c : After-get-p) → Met c.self.inside.history.now c.meet_needs.new.track c.meet_needs.new.ahead c.args.self.now
met-is c = grind (arith, common_steps)

at-is : (c : After-get-p) → slice_get c.self.inside.history.now (length c.meet_needs.new.track.history) ≡ Some c.in-Some.next.now
at-is c = item-at c.self.inside.history.now c.len-place.result (length c.meet_needs.new.track.history) c.in-Some.next c.len-place.ensures c.in-Some.ensures.lookup

told-is : (c : After-get-p) → c.in-Some.next.now.entry ≡ Publish c.get-p.result.now
told-is c = c.in-Publish.is ∙ ap (λ (p : Publication). Publish p) (sym c.get-p.ensures)

pub publish_next-requires : goal.publish_next-requires
publish_next-requires c =
    let k = (goal.at.publish_next-requires c).After-get-p in
    ready c.self.inside.history.now c.meet_needs.new.track c.meet_needs.new.ahead c.args.self.now c.in-Some.next.now c.get-p.result.now (met-is k) c.requires (at-is k) (told-is k)

pub returns-clause-published : goal.returns-clause-published
returns-clause-published c =
    let k = (goal.at.returns-clause-published c).After-get-p in
    let history : List Placed = c.self.inside.history.now in
    if-more (Publishes c.meet_needs.new.track c.get-p.result.now c.publish_next.new.track) (IsPublishedNext c.args.self.now (walk history c.publish_next.new.track))
    c.in_ok-reply.reply c.in_ok-reply.ensures.published
    (λ reply is. subst (λ (w : Walked). IsPublishedNext w (walk history c.publish_next.new.track) reply) (met-is k).is
    (published-next history c.meet_needs.new.track c.publish_next.new.track c.in-Some.next.now (at-is k) c.get-p.result.now (told-is k) reply is))

pub returns-clause-none : goal.returns-clause-none
returns-clause-none c =
    let k = (goal.at.returns-clause-none c).After-get-p in
    none-more (¬ Allowed (entries_of c.meet_needs.new.track.history) (Publish c.get-p.result.now)) (PublishesNothing c.args.self.now)
    c.in_ok-reply.reply c.in_ok-reply.ensures.none
    (λ never. subst PublishesNothing (met-is k).is
    (nothing-published c.self.inside.history.now c.meet_needs.new.track c.publish_next.new.track c.in-Some.next.now (at-is k) c.get-p.result.now (told-is k) never))
