use Rattle.std.proofs.Common.{◌≤◌, ◌<◌, ◌^◌, ℕ, length, get_or}
use Rattle.audit_model.specs.declared.heard.Heard.{Heard as AHeard}
use Rattle.audit_tests.proofs.of_play_audit.are_short.Given as goal

-- the scripts so far are short
abbrev pub invariant-loop-one : goal.invariant-loop-one
invariant-loop-one l = (k : ℕ) (d : AHeard) → k < l.one-index → length (get_or l.heard k d).script ≤ 2 ^ 30
