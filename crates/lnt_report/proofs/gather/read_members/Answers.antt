use Rattle.std.proofs.Common.{rules}
use Rattle.json_text.specs.View.{entry_of}
use Rattle.lnt_report.{specs.Numbers.{entry_readings, entry_ignored}, proofs.Walks.{walked_none, refused_each}}
use Rattle.lnt_report.proofs.gather.read_members.Goals as goal

pub loop-member-init : goal.loop-member-init
loop-member-init c = walked_none (entry_readings c.args.test.now) entry_ignored entry_of c.args.members.now c.args.gathered.now

pub returns-in_err-read_member : goal.returns-in_err-read_member
returns-in_err-read_member c all left total more h =
    let refusal = refused_each (entry_readings c.args.test.now) entry_ignored entry_of c.args.members.now c.loop-member.member-index c.member-item.result
    c.args.gathered.now c.loop-member.gathered c.read_member.new.gathered
    c.in_err-read_member.field-0.0 c.loop-member-test.true c.member-item.is c.loop-member.invariant c.in_err-read_member.ensures all left total more h in
    search (rules, refusal)
