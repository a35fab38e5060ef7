use Rattle.std.proofs.{Common.{◌≡◌, inr, ◌≤◌, length, subst, arith}, lemmas.List.length-map, lemmas.Grind.common_steps}
use Rattle.metric_table.specs.declared.limits.Limit.TheVariants as limit
use Rattle.history_model.specs.{declared.entries.Placed.Placed, Allowed.KeepsLimits, Entries.entries_of}
use Rattle.track_model.specs.Tracks.{Track}
use Rattle.track_room.proofs.Untaken.{unclaimed-untaken}
use Rattle.bisect_workers.proofs.{Closed.jobs-closed, Joined.{joined, nothing}}
use Rattle.bisect_workers.proofs.last.bisect_last.Goals as goal

pub turns-init : goal.turns-init
turns-init g c = grind (arith, common_steps, nothing, unclaimed-untaken)

pub returns-in_err-turn-clause-bisected : goal.returns-in_err-turn-clause-bisected
returns-in_err-turn-clause-bisected g c = grind (arith, common_steps, joined)

pub returns-then-not-branch-clause-bisected : goal.returns-then-not-branch-clause-bisected
returns-then-not-branch-clause-bisected g c = grind (arith, common_steps, joined)

pub turns-preserved : goal.turns-preserved
turns-preserved g c = grind (arith, common_steps, joined)

pub returns-in_err-turn-clause-free : goal.returns-in_err-turn-clause-free
returns-in_err-turn-clause-free g c = c.turn.ensures.free c.turns.invariant.1

pub returns-then-not-branch-clause-free : goal.returns-then-not-branch-clause-free
returns-then-not-branch-clause-free g c = c.turn.ensures.free c.turns.invariant.1

pub returns-clause-quiet : goal.returns-clause-quiet
returns-clause-quiet g c =
    let t : Track = c.turns.state.track in
    let size : length (entries_of t.history) ≡ length t.history = length-map t.history (λ (p : Placed). p.entry) in
    let few : length (entries_of t.history) ≤ 1_048_576 = subst (λ (u : Track). KeepsLimits (entries_of u.history)) c.track.ensures c.history_law.ensures.limits limit.Steps in
    inr (omega (arith, size, few, c.len.ensures, c.most.ensures, c.turns-test.false))

pub returns-then-not-branch-clause-quiet : goal.returns-then-not-branch-clause-quiet
returns-then-not-branch-clause-quiet g c = jobs-closed (entries_of c.turn.new.state.track.history) (c.in_ok-turn.ensures.done c.if-not-branch.true)
