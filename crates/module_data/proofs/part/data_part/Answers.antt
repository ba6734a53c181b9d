use Rattle.std.proofs.Common.{length, ap, arith, sym}
use Rattle.std.specs.List.{find, range_with_len}
use Rattle.module_data.specs.Parts.{data_part, is_data_part}
use Rattle.module_data.proofs.Searching.{found_on}
use Rattle.module_data.proofs.part.data_part.Goals as goal

pub loop-number-init : goal.loop-number-init
unfolding data_part
loop-number-init c = ap (λ n. find (is_data_part c.args.image.now) (range_with_len 0 n)) (omega arith)

pub loop-number-preserved : goal.loop-number-preserved
loop-number-preserved c =
    found_on (is_data_part c.args.image.now) c.loop-number.number (length c.args.image.now.parts) _
    (omega (arith, c.loop-number-test.true)) (sym c.if-is_data_part.ensures) c.loop-number.invariant
