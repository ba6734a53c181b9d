-- The text of a generated job is a job.
use Rattle.std.specs.Prelude.{◌≡◌, ◌≤◌, ℕ, Ok}
use Rattle.generated_job.specs.Generated.{generated_text}
use Rattle.job_text.specs.Jobs.{job_of}
use Rattle.generated_laws.specs.Jobs.{generated_parts}

abbrev pub GeneratedTextsAreJobs : Type 0
GeneratedTextsAreJobs = (n : ℕ) → 1 ≤ n → n ≤ 1000 → job_of (generated_text n) ≡ Ok (generated_parts n)
