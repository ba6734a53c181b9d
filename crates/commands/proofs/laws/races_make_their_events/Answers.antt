use Rattle.lawful_points.proofs.Events.{races_make}
use Rattle.thread_blocks.specs.JobLoads.{job_loads}
use Rattle.commands.specs.Runs.{modules_of}
use Rattle.commands.proofs.laws.races_make_their_events.Goals as goal

pub returns : goal.returns
returns c = λ job ls transcript race.
    races_make (job_loads (modules_of job ls)) job.fuel job.lines transcript race.ran.raced
