use Rattle.std.proofs.Common.{take}
use Rattle.track_state.specs.{Covering.AreTouched, Touching.named}
use Rattle.track_state.proofs.catching.touch_named.Given as goal

-- the named series so far were touched
abbrev pub invariant-loop-name : goal.invariant-loop-name
invariant-loop-name l = AreTouched (named l.metric (take l.name-index l.names)) l.step l.fn.touched l.touched
