use Rattle.job_turns.proofs.running.+number_at.Given as goal

-- the bytes that are left
abbrev pub decreases-number_at : goal.decreases-number_at
decreases-number_at l = l.count
