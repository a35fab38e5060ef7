use Rattle.json_text.specs.View.{entry_of}
use Rattle.lnt_report.{specs.Numbers.{entry_readings, entry_ignored}, proofs.Walks.Walked}
use Rattle.lnt_report.proofs.gather.read_members.Given as goal

-- the members before this one have been gathered
abbrev pub invariant-loop-member : goal.invariant-loop-member
invariant-loop-member l = Walked (entry_readings l.test) entry_ignored entry_of l.members l.member-index l.fn.gathered l.gathered
