use Rattle.std.proofs.Common.{◌≡◌, ◌++◌}
use Rattle.std.specs.List.{flat_map, range_with_len}
use Rattle.generated_job.specs.Generated.{program_call}
use Rattle.generated_job.proofs.text.push_program_calls.Given as goal

abbrev pub invariant-loop-before : goal.invariant-loop-before
invariant-loop-before l = l.text.items ≡ l.initial.text.items ++ flat_map program_call (range_with_len 1 l.before)
