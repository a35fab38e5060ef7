use Rattle.std.proofs.Common.{◌≡◌, ◌++◌, false, drop}
use Rattle.report_pages.proofs.Joined.{rest_text}
use Rattle.report_pages.proofs.items.put_all.Given as goal

abbrev pub invariant-loop-item : goal.invariant-loop-item
invariant-loop-item g l =
    l.out.items ++ rest_text g.T.Item.shown l.later (drop l.item-index l.items)
    ≡ l.initial.out.items ++ rest_text g.T.Item.shown false l.items
