use Rattle.std.{proofs.Common.{◌≡◌, length, subst, Some, arith}, specs.Prelude.slice_get, proofs.lemmas.Grind.common_steps}
use Rattle.history_model.specs.{declared.entries.Entry.Entry, Entries.entries_of}
use Rattle.track_step.specs.Replays.{IsReplayed}
use Rattle.journal_walk.proofs.Going.{Met, goes-replayed, if-there, item-at, keeps-replayed, same-replayed, stuck-replayed, walk}
use Rattle.journal_walk.proofs.walk.Walk.go_on.Goals as goal
use Rattle.journal_walk.proofs.walk.Walk.go_on.Goals.{In-Some, In_ok-added}

met-is : (c : In-Some) → Met c.self.inside.history.now c.meet_needs.new.track c.meet_needs.new.ahead c.args.self.now
met-is c = grind (arith, common_steps)

at-is : (c : In-Some) → slice_get c.self.inside.history.now (length c.meet_needs.new.track.history) ≡ Some c.in-Some.next.now
at-is c = item-at c.self.inside.history.now c.len-place.result (length c.meet_needs.new.track.history) c.in-Some.next c.len-place.ensures c.in-Some.ensures.lookup

replayed-is : (c : In_ok-added) → IsReplayed c.meet_needs.new.track c.in-Some.next.now.entry c.in_ok-added.added c.replay.new.track
replayed-is c = subst (λ (e : Entry). IsReplayed c.meet_needs.new.track e c.in_ok-added.added c.replay.new.track) c.in_ok-entry.ensures c.in_ok-added.ensures.replayed

pub returns-then-publishes-clause-added : goal.returns-then-publishes-clause-added
returns-then-publishes-clause-added c hit = grind (arith, common_steps, if-there)

pub replay-requires : goal.replay-requires
replay-requires c = grind (arith, common_steps, goal.at.replay-requires, met-is, at-is)

pub invariant_of-self-2 : goal.invariant_of-self-2
invariant_of-self-2 c =
    let k = (goal.at.invariant_of-self-2 c).In-Some in
    let met = met-is k in
    keeps-replayed (entries_of c.self.inside.history.now) c.meet_needs.new.ahead c.meet_needs.new.track c.replay.new.track c.in-Some.next.now.entry c.in_ok-added.added
    met.kept met.met (replayed-is (goal.at.invariant_of-self-2 c).In_ok-added)

pub returns : goal.returns
returns c = grind (arith, common_steps, goal.at.returns, replayed-is, met-is, walk, goes-replayed, at-is, stuck-replayed, same-replayed)
