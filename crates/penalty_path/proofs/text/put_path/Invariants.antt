use Rattle.std.proofs.Common.{◌≡◌, ◌++◌, take, flat_map}
use Rattle.penalty_path.specs.Text.{stretch_text}
use Rattle.penalty_path.proofs.text.put_path.Given as goal

abbrev pub invariant-loop-stretch : goal.invariant-loop-stretch
invariant-loop-stretch l = l.out.items ≡ l.initial.out.items ++ flat_map stretch_text (take l.stretch-index l.stretches)
