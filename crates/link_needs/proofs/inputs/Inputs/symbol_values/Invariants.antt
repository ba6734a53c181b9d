use Rattle.std.proofs.Common.{◌≡◌, map}
use Rattle.std.specs.List.{range_with_len}
use Rattle.link_needs.specs.Plans.{values_of}
use Rattle.link_needs.proofs.inputs.Inputs.symbol_values.Given as goal

-- those of the objects so far
abbrev pub invariant-loop-object : goal.invariant-loop-object
invariant-loop-object l = map (λ own. own.items) l.all.items ≡ map (values_of l.self) (range_with_len 0 l.object)
