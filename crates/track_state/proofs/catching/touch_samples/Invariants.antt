use Rattle.std.proofs.Common.{take}
use Rattle.track_state.specs.{Covering.AreTouched, Touching.sampled}
use Rattle.track_state.proofs.catching.touch_samples.Given as goal

-- the series of the samples so far were touched
abbrev pub invariant-loop-sample : goal.invariant-loop-sample
invariant-loop-sample l = AreTouched (sampled (take l.sample-index l.samples)) l.step l.fn.touched l.touched
