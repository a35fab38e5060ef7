use Rattle.std.proofs.Common.{append_assoc}
use Rattle.series_gen.proofs.script.put_submit.Goals as goal

-- what the calls appended, one after another
pub returns : goal.returns
returns c = rw (c.in_ok-extend_from_slice.ensures.items, c.in_ok-put_numbered-2.ensures, c.in_ok-put_numbered.ensures) (simp append_assoc)
