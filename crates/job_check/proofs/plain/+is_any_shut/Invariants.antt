use Rattle.job_check.proofs.plain.+is_any_shut.Given as goal

abbrev pub decreases-is_any_shut : goal.decreases-is_any_shut
decreases-is_any_shut l = l.size
