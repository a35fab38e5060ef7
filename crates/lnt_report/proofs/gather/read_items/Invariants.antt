use Rattle.json_text.specs.View.{tree_of}
use Rattle.lnt_report.{specs.Numbers.item_readings, proofs.Walks.Walked}
use Rattle.lnt_report.proofs.gather.read_items.Given as goal

-- the items before this one have been gathered
abbrev pub invariant-loop-item : goal.invariant-loop-item
invariant-loop-item l = Walked (item_readings l.test l.metric) (λ _. 0) tree_of l.items l.item-index l.fn.gathered l.gathered
