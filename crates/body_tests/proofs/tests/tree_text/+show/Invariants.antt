use Rattle.body_tests.proofs.tests.tree_text.+show.Given as goal

abbrev pub decreases-show : goal.decreases-show
decreases-show l = l.depth
