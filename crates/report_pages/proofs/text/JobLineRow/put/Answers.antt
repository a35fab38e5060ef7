use Rattle.std.proofs.Common.{append_assoc}
use Rattle.report_pages.proofs.text.JobLineRow.put.Goals as goal

-- what the calls appended, one after another
pub returns : goal.returns
returns c = rw (c.in_ok-put_bytes-2.ensures, c.in_ok-put_told.ensures.ok, c.in_ok-put_bytes.ensures, c.in_ok-put_numbered-3.ensures, c.in_ok-put_numbered-2.ensures, c.in_ok-put_numbered.ensures) (simp append_assoc)
