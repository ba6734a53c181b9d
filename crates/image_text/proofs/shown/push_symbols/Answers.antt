use Rattle.std.proofs.Common.{arith}
use Rattle.std.specs.List.{zip}
use Rattle.image_text.specs.Shown.{symbol_line}
use Rattle.image_text.proofs.ShownLemmas.{one_more_behind, all_behind}
use Rattle.image_text.proofs.shown.push_symbols.Goals as goal

pub loop-number-preserved : goal.loop-number-preserved
loop-number-preserved c =
    one_more_behind symbol_line (zip c.args.image.now.symbols c.args.image.now.names) c.loop-number.number _ _ _
    (omega arith) c.in_ok-push_symbol_at.ensures c.loop-number.invariant

pub returns : goal.returns
returns c =
    all_behind symbol_line c.args.image.now.symbols c.args.image.now.names c.loop-number.number _ _
    (omega arith) c.loop-number.invariant
