-- The images of a job that a text spells are in order.
use Rattle.std.specs.Prelude.{ℕ, List}
use Rattle.job_text.specs.Jobs.{JobParts}
use Rattle.job_text.specs.LateImages.{late_last}
use Rattle.job_text.specs.ProgramFirst.{program_first}
use Rattle.commands.specs.InOrder.{IsInOrder}

pub in_order : (text : List ℕ) (job : JobParts) → IsInOrder text job
in_order text job is = record { late = late_last text job is; program = program_first text job is }
