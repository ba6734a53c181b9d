-- The law of which jobs have a text.
use Rattle.job_grammar_laws.proofs.Jobs.{derived_are_jobs, jobs_derived}
use Rattle.job_grammar_laws.proofs.Limits.{all_within}
use Rattle.job_grammar_laws.proofs.Writer.{goes}
use Rattle.job_grammar_laws.proofs.Tellable.{TextsTellAll}

pub told_written : TextsTellAll
told_written job = (
  λ has. let derived = jobs_derived has.0 job has.1 in
      (derived.told, all_within has.0 derived.told derived.lines, derived.makes),
  λ made. let text = goes made.0 made.1 in
      (text.0, derived_are_jobs text.0 job (record { told = made.0; lines = text.1; makes = made.2 })),
)
