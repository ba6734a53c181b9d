-- The images so far.
use Rattle.std.proofs.Common.{◌≡◌, map}
use Rattle.std.specs.List.{range_with_len}
use Rattle.module_data.specs.Pieces.{first_piece}
use Rattle.module_data.proofs.data.Data.new.Given as goal

abbrev pub invariant-loop-number : goal.invariant-loop-number
invariant-loop-number l = l.pieces.items ≡ map (first_piece l.modules) (range_with_len 0 l.number)
