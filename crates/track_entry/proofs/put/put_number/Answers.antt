use Rattle.std.proofs.Common.{append_assoc}
use Rattle.track_entry.proofs.put.put_number.Goals as goal

-- what the calls appended, one after another
pub returns : goal.returns
returns c = rw (c.in_ok-put_u64.ensures.ok, c.in_ok-push.ensures.items) (simp append_assoc)
