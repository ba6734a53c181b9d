-- The data of the instances so far.
use Rattle.std.proofs.Common.{◌≡◌, [], take, true}
use Rattle.std.specs.List.{flat_map}
use Rattle.thread_blocks.specs.Held.{data_after}
use Rattle.whole_meaning.specs.Loads.{loads_of}
use Rattle.job_check.proofs.turns.first_data.Given as goal

abbrev pub invariant-loop-instance : goal.invariant-loop-instance
invariant-loop-instance l =
    l.shared.items ≡ flat_map (data_after (loads_of l.images) (λ x. true) []) (take l.instance-index l.instance-items)
