use Rattle.std.proofs.Common.{rules}
use Rattle.reply_text.{specs.Replies.change_words, specs.Puts.Begins, proofs.WordsBehind.begins_behind, proofs.ListLines.{lines_step, lines_end}}
use Rattle.reply_text.proofs.reply.put_changes.Goals as goal

pub loop-change-init : goal.loop-change-init
loop-change-init c = search rules

pub loop-change-preserved : goal.loop-change-preserved
loop-change-preserved c = lines_step (change_words c.args.metric.now) _ _ _ _ _ _ c.loop-change-test.true c.change-item.is c.in_ok-put_change.ensures c.loop-change.invariant

pub returns-in_err-put_change : goal.returns-in_err-put_change
returns-in_err-put_change c =
    let left : Begins c.args.out.now.items c.put_change.new.out.items = begins_behind _ _ _ _ c.loop-change.invariant c.in_err-put_change.ensures in
    search rules

pub returns : goal.returns
returns c = lines_end (change_words c.args.metric.now) _ _ _ _ c.loop-change-test.false c.loop-change.invariant
