use Rattle.lawful_points.proofs.Events.{runs_make}
use Rattle.thread_blocks.specs.JobLoads.{job_loads}
use Rattle.commands.specs.Runs.{modules_of}
use Rattle.commands.proofs.laws.runs_make_their_events.Goals as goal

pub returns : goal.returns
returns c = λ job ls transcript ran.
    runs_make (job_loads (modules_of job ls)) job.fuel job.lines job.order transcript ran.printed_is
