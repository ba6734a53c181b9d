use Rattle.meant_steps.proofs.sequence.+holds_all.Given as goal

abbrev pub decreases-holds_all : goal.decreases-holds_all
decreases-holds_all g l = l.size
