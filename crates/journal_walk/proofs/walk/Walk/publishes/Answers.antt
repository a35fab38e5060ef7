use Rattle.std.proofs.Common.{◌≡◌, length, sym, subst, Some}
use Rattle.journal_lines.specs.Authors.{IsPublication}
use Rattle.journal_walk.{specs.Walks.{Walked, coming}, proofs.Going.item-at}
use Rattle.journal_walk.proofs.walk.Walk.publishes.Goals as goal

pub returns-in-Publish-clause-next : goal.returns-in-Publish-clause-next
returns-in-Publish-clause-next c = λ yes.
    let at = item-at c.self.inside.history.now c.len-place.result (length c.self.inside.track.history) c.in-Some.next c.len-place.ensures c.in-Some.ensures.lookup in (
      c.in-Some.next.now,
      subst (λ (w : Walked). coming w ≡ Some c.in-Some.next.now) c.self.view_is at,
      subst IsPublication (sym c.in-Publish.is) tt,
    )
