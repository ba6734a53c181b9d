use Rattle.std.proofs.Common.{◌∙◌}
use Rattle.generated_job.specs.Generated.{object_word}
use Rattle.generated_job.proofs.Counting.{line_more}
use Rattle.generated_job.proofs.text.push_program.Goals as goal

pub loop-before-preserved : goal.loop-before-preserved
loop-before-preserved c =
    line_more object_word _ _ _ _ c.loop-before.before c.loop-before.invariant c.in_ok-extend_from_slice-2.ensures.items
    (c.as_bytes.ensures.value ∙ c.in_ok-object_word.ensures)
