use Rattle.std.proofs.{Common.{◌≡◌, ℕ, ◌<◌, ◌+◌, List, length, slice_index, ◌⊎◌, arith}, lemmas.Grind.common_steps}
use Rattle.segment_model.specs.Values.{cost_between}
use Rattle.pelt_core.{specs.Candidates.IsAmong, proofs.Marks.one-looked}
use Rattle.pelt_core.proofs.candidates.mark_first.Goals as goal

-- one candidate more
among-more : (cs : List ℕ) (i s : ℕ) → IsAmong cs (i + 1) s → IsAmong cs i s ⊎ (s ≡ slice_index cs i)
among-more cs i s is = grind (arith, common_steps)

pub loop-i-preserved : goal.loop-i-preserved
loop-i-preserved g c len may =
    let lt : c.loop-i.i < length c.args.candidates.now = omega (arith, c.loop-i-test.true, c.requires.count) in
    let h = c.loop-i.invariant len may in
    one-looked (cost_between g.C.Cost.cost_of (g.C.Cost.positions c.args.cost.now)) len c.args.least.now (length (g.C.Cost.positions c.args.cost.now))
    (IsAmong c.args.candidates.now c.loop-i.i) (IsAmong c.args.candidates.now (c.loop-i.i + 1)) c.args.pruned.now c.loop-i.pruned c.mark-here.new.pruned (slice_index c.args.candidates.now c.loop-i.i) h
    (c.requires.candidates.below c.loop-i.i lt) c.mark-here.auto.pruned (rw c.from.ensures at (c.mark-here.ensures.marked len (rw c.from.ensures (may c.loop-i.i lt)))) (rw c.from.ensures at c.mark-here.ensures.others)
    (among-more c.args.candidates.now c.loop-i.i)

pub returns : goal.returns
returns g c len may =
    let all : c.loop-i.i ≡ c.args.count = omega (arith, c.loop-i-test.false, c.loop-i.auto.i-end) in
    rw all at (c.loop-i.invariant len may)
