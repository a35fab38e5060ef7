use Rattle.std.proofs.Common.{◌≡◌, map, drop}
use Rattle.json_text.specs.View.{entry_of}
use Rattle.lnt_report.specs.Look.{value_at}
use Rattle.lnt_report.proofs.look.find.Given as goal

-- the value is that of the members that are left
abbrev pub invariant-loop-member : goal.invariant-loop-member
invariant-loop-member l = value_at l.key (map entry_of l.members) ≡ value_at l.key (map entry_of (drop l.member-index l.members))
