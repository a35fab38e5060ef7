use Rattle.std.proofs.{Common.{length, map, take, ◌∙◌, arith}, lemmas.Grind.common_steps}
use Rattle.track_room.proofs.Splits.{half-first, half-homes, off-homes, off-long, split-back, split_off-homes, splitting-first, splitting-homes}
use Rattle.track_room.proofs.passes.split_all.Goals as goal

pub join_each-requires-clause-locks : goal.join_each-requires-clause-locks
join_each-requires-clause-locks c = let half = c.in-Err.ensures.err in rw half.3 (half-homes half.0 c.args.passes.now ∙ c.requires.locks)

pub join_each-requires-clause-first : goal.join_each-requires-clause-first
join_each-requires-clause-first c = let half = c.in-Err.ensures.err in rw half.3 (half-first half.0 c.args.passes.now c.requires.first)

pub join_each-requires-clause-others : goal.join_each-requires-clause-others
join_each-requires-clause-others c = grind (arith, common_steps, off-homes, take, map, off-long, length)

pub returns-in-Err-clause-err : goal.returns-in-Err-clause-err
returns-in-Err-clause-err c = grind (arith, common_steps, split-back)

pub returns-clause-locks : goal.returns-clause-locks
returns-clause-locks c = grind (arith, common_steps, splitting-homes, splitting-first)

pub returns-clause-others : goal.returns-clause-others
returns-clause-others c = rw c.in_default.ensures.ok.0 (split_off-homes c.args.passes.now ∙ c.requires.locks)
