use Rattle.std.proofs.Common.{◌∙◌}
use Rattle.generated_job.specs.Generated.{program_call}
use Rattle.generated_job.proofs.Counting.{line_more}
use Rattle.generated_job.proofs.text.push_program_calls.Goals as goal

pub loop-before-preserved : goal.loop-before-preserved
loop-before-preserved c =
    line_more program_call _ _ _ _ c.loop-before.before c.loop-before.invariant c.in_ok-extend_from_slice.ensures.items
    (c.as_bytes.ensures.value ∙ c.in_ok-program_call.ensures)
