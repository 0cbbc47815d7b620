use Rattle.merkle_pruned.proofs.node.+opened.Given as goal

abbrev pub decreases-opened : goal.decreases-opened
decreases-opened l = l.height
