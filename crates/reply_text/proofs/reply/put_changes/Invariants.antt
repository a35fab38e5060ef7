use Rattle.std.proofs.Common.{◌≡◌, ◌++◌, take}
use Rattle.reply_text.{specs.Replies.change_words, proofs.ListLines.lines}
use Rattle.reply_text.proofs.reply.put_changes.Given as goal

-- the changes so far are put
abbrev pub invariant-loop-change : goal.invariant-loop-change
invariant-loop-change l = l.out.items ≡ l.fn.out.items ++ lines (change_words l.metric) (take l.change-index l.changes)
