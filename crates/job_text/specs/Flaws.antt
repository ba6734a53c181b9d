-- A fault of a line, with the line's number.
use Rattle.std.specs.Prelude.{ℕ}
use Rattle.job_text.specs.declared.fault.Flaw.{Flaw}
use Rattle.job_text.specs.declared.fault.Flaw.TheVariants as flaw
use Rattle.job_text.specs.declared.fault.JobFault.{JobFault}
use Rattle.job_text.specs.declared.fault.JobFault.TheVariants.{At, OutOfMemory}

-- the fault of a job whose line has this flaw
abbrev pub fault_at : ℕ → Flaw → JobFault
fault_at line flaw.OutOfMemory = OutOfMemory
fault_at line (flaw.Kind kind) = At line kind
