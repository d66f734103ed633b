use Rattle.hpt_pool.proofs.tree.+free_all.Given as goal

abbrev pub decreases-free_all : goal.decreases-free_all
decreases-free_all l = l.height
