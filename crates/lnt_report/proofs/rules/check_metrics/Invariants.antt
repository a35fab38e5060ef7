use Rattle.std.proofs.Common.{◌≡◌, map, drop, decimal, codes}
use Rattle.json_text.specs.View.{entry_of}
use Rattle.lnt_report.specs.Rules.{under, metrics_break}
use Rattle.lnt_report.proofs.rules.check_metrics.Given as goal

-- the first break is that of the members that are left
abbrev pub invariant-loop-member : goal.invariant-loop-member
invariant-loop-member l =
    let path = under (codes "tests") (decimal l.place) in
    metrics_break path (map entry_of l.members) ≡ metrics_break path (map entry_of (drop l.member-index l.members))
