use Rattle.std.proofs.Common.{◌≡◌, ◌*◌, ◌≤◌, drop}
use Rattle.play_audit.{specs.Marks.rows_of, proofs.Judging.AreFirstHeard}
use Rattle.play_audit.proofs.auditing.hear_all.Given as goal

abbrev pub invariant-loop-one : goal.invariant-loop-one
invariant-loop-one l =
    AreFirstHeard l.journals l.heard l.one-index l.requests (rows_of l.marks.items)
    × (l.script ≡ l.one-index)
    × (l.rest.rest.items ≡ drop l.one-index l.fn.asked.items)
    × (l.requests ≤ l.one-index * 1_152_921_504_606_846_976)
