use Rattle.std.proofs.Common.{◌∙◌}
use Rattle.marked_memory.specs.Kept.{memory_of}
use Rattle.job_check.proofs.PlainSteps.{load_refused}
use Rattle.job_check.proofs.plain.is_refused.Goals as goal

pub returns-in-Load : goal.returns-in-Load
returns-in-Load c = c.is_err.ensures.value
    ∙ load_refused (memory_of c.args.space.now) c.args.touch.now.address c.args.touch.now.address _ c.load.result c.args.touch.now.direction c.in-Load.is c.load.ensures
