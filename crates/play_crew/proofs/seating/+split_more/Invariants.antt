use Rattle.play_crew.proofs.seating.+split_more.Given as goal

abbrev pub decreases-split_more : goal.decreases-split_more
decreases-split_more l = l.count
