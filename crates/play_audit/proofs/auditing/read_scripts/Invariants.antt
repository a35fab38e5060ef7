use Rattle.std.proofs.Common.{◌≡◌}
use Rattle.play_audit.proofs.Scripts.{HaveRead}
use Rattle.play_audit.proofs.auditing.read_scripts.Given as goal

abbrev pub invariant-loop-one : goal.invariant-loop-one
invariant-loop-one l = HaveRead l.heard l.one-index l.asked.items × (l.script ≡ l.one-index)
