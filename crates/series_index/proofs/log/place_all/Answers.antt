use Rattle.std.proofs.{Common.{◌≡◌, arith}, lemmas.Grind.common_steps}
use Rattle.series_index.{specs.Log.{all_placed, MayBePlaced}, proofs.log.place_all.Goals.After-drop_first}
use Rattle.series_index.proofs.log.place_all.Goals as goal

-- all is placed as before, and what is left may be
module _ (c : After-drop_first) where
  same : all_placed c.drop_first.new.coming.items c.place_first-count.new.placed ≡ all_placed c.args.coming.now.items c.args.placed.now
  same = grind (arith, common_steps)

  may : MayBePlaced c.drop_first.new.coming.items c.place_first-count.new.placed
  may = grind (arith, common_steps)

pub returns-then-is_empty-clause-same : goal.returns-then-is_empty-clause-same
returns-then-is_empty-clause-same c = same (goal.at.returns-then-is_empty-clause-same c).After-drop_first

pub returns-then-is_empty-clause-may : goal.returns-then-is_empty-clause-may
returns-then-is_empty-clause-may c = may (goal.at.returns-then-is_empty-clause-may c).After-drop_first

pub returns-else-is_empty-clause-same : goal.returns-else-is_empty-clause-same
returns-else-is_empty-clause-same c = same (goal.at.returns-else-is_empty-clause-same c).After-drop_first

pub returns-else-is_empty-clause-may : goal.returns-else-is_empty-clause-may
returns-else-is_empty-clause-may c = may (goal.at.returns-else-is_empty-clause-may c).After-drop_first
