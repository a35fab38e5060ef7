use Rattle.std.proofs.Common.{codes, decimal}
use Rattle.line_text.specs.Names.{spelling}
use Rattle.report_pages.{specs.Alignment.{left_aligned, right_aligned}, specs.Text.{count_text, centre_text}, proofs.Appends.series_pieces}
use Rattle.report_pages.proofs.text.SeriesLineRow.put.Goals as goal

-- what the calls appended, one after another
pub returns : goal.returns
returns c = rw (c.in_ok-put_bytes-2.ensures, c.in_ok-put_centre.ensures, c.in_ok-put_counts.ensures, c.in_ok-put_names.ensures, c.in_ok-put_bytes.ensures) (series_pieces c.args.out.now.items (codes "series ") (left_aligned 40 (spelling c.args.self.now.test)) (left_aligned 16 (spelling c.args.self.now.metric)) (codes " ")
    (right_aligned 8 (decimal c.args.self.now.samples)) (right_aligned 8 (decimal c.args.self.now.positions)) (right_aligned 8 (count_text c.args.self.now.changes))
    (right_aligned 20 (centre_text c.args.self.now.metric c.args.self.now.centre)) (codes "\n"))
