use Rattle.std.proofs.{Common.{◌≡◌, ◌+◌, ◌-◌, take, drop, ap, ◌∙◌, arith}, lemmas.Grind.common_steps}
use Rattle.track_outside.proofs.{Repeats.{goes_on, turn_ends}, repeat_source.RepeatSourceSource.read.Goals.After-copy_from_slice}
use Rattle.track_outside.proofs.repeat_source.RepeatSourceSource.read.Goals as goal

-- what was copied is of the pattern
copied : (c : After-copy_from_slice) → c.copy_from_slice.new.self ≡ take (c.self.inside.at + c.min-count.result - c.self.inside.at) (drop c.self.inside.at c.self.inside.pattern.items)
copied c = c.copy_from_slice.ensures.after ∙ ap (λ xs. take (c.self.inside.at + c.min-count.result - c.self.inside.at) (drop c.self.inside.at xs)) c.deref.ensures.value

pub returns-then-end-len-clause-bytes : goal.returns-then-end-len-clause-bytes
returns-then-end-len-clause-bytes c = grind (arith, common_steps, goes_on, drop, copied, goal.at.returns-then-end-len-clause-bytes)

pub returns-else-end-len-clause-bytes : goal.returns-else-end-len-clause-bytes
returns-else-end-len-clause-bytes c = grind (arith, common_steps, turn_ends, drop, copied, goal.at.returns-else-end-len-clause-bytes)
