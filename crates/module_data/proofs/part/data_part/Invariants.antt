-- The numbers that are left decide.
use Rattle.std.proofs.Common.{◌≡◌, ◌-◌, length}
use Rattle.std.specs.List.{find, range_with_len}
use Rattle.module_data.specs.Parts.{data_part, is_data_part}
use Rattle.module_data.proofs.part.data_part.Given as goal

abbrev pub invariant-loop-number : goal.invariant-loop-number
invariant-loop-number l =
    find (is_data_part l.image) (range_with_len l.number (length l.image.parts - l.number)) ≡ data_part l.image
