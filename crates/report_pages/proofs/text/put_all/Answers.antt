use Rattle.report_pages.proofs.Appends.{text_more}
use Rattle.report_pages.proofs.text.put_all.Goals as goal

pub loop-row-preserved : goal.loop-row-preserved
loop-row-preserved g c =
    text_more g.T.Row.text c.args.rows.now c.loop-row.row-index c.row-item.result c.args.out.now.items c.loop-row.out.items c.put.new.out.items
    c.loop-row-test.true c.row-item.is c.loop-row.invariant c.in_ok-put.ensures
