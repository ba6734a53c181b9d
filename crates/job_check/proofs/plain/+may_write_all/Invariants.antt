use Rattle.job_check.proofs.plain.+may_write_all.Given as goal

abbrev pub decreases-may_write_all : goal.decreases-may_write_all
decreases-may_write_all l = l.size
