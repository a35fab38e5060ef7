use Rattle.std.proofs.Common.{append_assoc, append-nil}
use Rattle.reply_text.proofs.refusal.put_taken.Goals as goal

pub returns : goal.returns
returns c = simp (c.in_ok-put_spelled.ensures, c.in_ok-put_numbered.ensures, append_assoc, append-nil)
