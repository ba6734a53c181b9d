use Rattle.std.proofs.Common.{◌<◌, length, arith, refl, ◌∙◌}
use Rattle.elf_records.specs.Records.{symbol_bytes}
use Rattle.object_builder.proofs.Records.{one_more, whole_symbol}
use Rattle.object_builder.proofs.put.put_symbols.Goals as goal

pub loop-symbol-preserved : goal.loop-symbol-preserved
loop-symbol-preserved c =
    let inside : c.loop-symbol.symbol-index < length c.args.symbols.now = omega arith in
    one_more symbol_bytes _ _ _ _ c.args.symbols.now c.loop-symbol.symbol-index _ inside c.loop-symbol.invariant
    c.in_ok-extend_from_slice.ensures.items (c.write_symbol.ensures.bytes ∙ whole_symbol _ _ refl)
