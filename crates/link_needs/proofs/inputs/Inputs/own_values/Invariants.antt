use Rattle.std.proofs.Common.{◌≡◌, map}
use Rattle.std.specs.List.{range_with_len}
use Rattle.link_needs.specs.Plans.{value_of}
use Rattle.link_needs.proofs.inputs.Inputs.own_values.Given as goal

-- those of the symbols so far
abbrev pub invariant-loop-symbol : goal.invariant-loop-symbol
invariant-loop-symbol l = l.own.items ≡ map (value_of l.self l.object) (range_with_len 0 l.symbol)
