use Rattle.std.proofs.Common.{append_assoc}
use Rattle.report_pages.proofs.text.RegressionLineRow.put.Goals as goal

-- what the calls appended, one after another
pub returns : goal.returns
returns c = rw (c.in_ok-put_state.ensures, c.in_ok-put_word-4.ensures, c.in_ok-put_word-3.ensures, c.in_ok-put_word-2.ensures, c.in_ok-put_word.ensures, c.in_ok-put_numbered.ensures) (simp append_assoc)
