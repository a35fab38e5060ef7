use Rattle.std.proofs.Common.{◌≡◌}
use Rattle.touch_index.specs.Free.{first_free}
use Rattle.touch_index.proofs.index.TouchIndex.find_free.Given as goal

-- the first free one of all is the first of those to come
abbrev pub invariant-loop-key : goal.invariant-loop-key
invariant-loop-key l = first_free l.self ≡ first_free l.key-iterator
