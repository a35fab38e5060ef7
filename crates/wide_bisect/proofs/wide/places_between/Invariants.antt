use Rattle.std.{proofs.Common.{◌≡◌, ◌-◌, ◌≤◌}, specs.List.range_with_len}
use Rattle.wide_bisect.proofs.wide.places_between.Given as goal

abbrev pub invariant-loop-place : goal.invariant-loop-place
invariant-loop-place l = (l.made.items ≡ range_with_len 1 (l.place - 1)) × (1 ≤ l.place)
