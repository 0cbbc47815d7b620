use Rattle.disk_node.proofs.formatting.+root_of_equal.Given as goal

abbrev pub decreases-root_of_equal : goal.decreases-root_of_equal
decreases-root_of_equal l = l.height
