use Rattle.loaded_bytes.proofs.RunsOn.{none_runs_on}
use Rattle.loaded_bytes.proofs.laws.none_runs_on.Goals as goal

pub returns : goal.returns
returns c = none_runs_on
