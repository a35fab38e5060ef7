use Rattle.std.proofs.Common.{◌≡◌, take, drop, filter}
use Rattle.order_index.specs.{Between.is_between, Kept.{AreFrom, numbers_of}}
use Rattle.order_index.proofs.rising.numbers_between.Given as goal

-- the numbers so far are those before the place, and none is left below the range
abbrev pub invariant-loop-place : goal.invariant-loop-place
invariant-loop-place l = record {
  so_far : l.numbers ≡ filter (is_between l.lo l.hi) (numbers_of (take l.place l.commits));
  rest : AreFrom l.lo (drop l.place l.commits);
}
