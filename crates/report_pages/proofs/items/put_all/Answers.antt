use Rattle.std.proofs.Common.{◌++◌, false, arith}
use Rattle.report_pages.proofs.Joined.{rest_text, item_more, items_end}
use Rattle.report_pages.proofs.items.put_all.Goals as goal

pub loop-item-preserved : goal.loop-item-preserved
loop-item-preserved g c =
    item_more g.T.Item.shown c.args.items.now c.loop-item.item-index c.item-item.result c.loop-item.later c.loop-item.out.items c.put_item.new.out.items
    (c.args.out.now.items ++ rest_text g.T.Item.shown false c.args.items.now)
    c.loop-item-test.true c.item-item.is c.loop-item.invariant c.in_ok-put_item.ensures

pub returns : goal.returns
returns g c =
    items_end g.T.Item.shown c.args.items.now c.loop-item.item-index c.loop-item.later c.loop-item.out.items c.put_bytes.new.out.items
    (c.args.out.now.items ++ rest_text g.T.Item.shown false c.args.items.now)
    (omega (arith, c.loop-item-test.false)) c.loop-item.invariant c.in_ok-put_bytes.ensures
