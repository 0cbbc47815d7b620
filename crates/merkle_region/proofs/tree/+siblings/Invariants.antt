use Rattle.merkle_region.proofs.tree.+siblings.Given as goal

abbrev pub decreases-siblings : goal.decreases-siblings
decreases-siblings l = l.height
