use Rattle.uniquing.proofs.reading.+reading.Given as goal

abbrev pub decreases-read_tree : goal.decreases-read_tree
decreases-read_tree g l = l.depth

abbrev pub decreases-read_places : goal.decreases-read_places
decreases-read_places g l = l.depth
