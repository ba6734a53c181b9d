-- The images that are left decide.
use Rattle.std.proofs.Common.{◌≡◌}
use Rattle.std.specs.Prelude.{drop}
use Rattle.std.specs.List.{list_any}
use Rattle.job_turns.specs.Alone.{has_data}
use Rattle.job_turns.proofs.Dataless.{has}
use Rattle.job_turns.proofs.alone.has_data.Given as goal

abbrev pub invariant-loop-index : goal.invariant-loop-index
invariant-loop-index l = list_any has (drop l.index l.modules.images) ≡ has_data l.modules
