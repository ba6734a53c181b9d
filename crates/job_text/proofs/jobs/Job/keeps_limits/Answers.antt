use Rattle.std.proofs.Common.{ℕ, List, subst}
use Rattle.std.specs.List.{Contains}
use Rattle.job_text.proofs.jobs.Job.keeps_limits.Goals as goal

pub returns-clause-mentioned : goal.returns-clause-mentioned
returns-clause-mentioned c = λ k some few.
    subst (λ (numbers : List ℕ). Contains numbers k) c.mentions.ensures.value (c.mentions.ensures.every k some few)
