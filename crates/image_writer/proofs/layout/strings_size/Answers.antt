use Rattle.std.proofs.Common.{length, ap, sym, ◌∙◌, arith}
use Rattle.image_writer.proofs.Strings.{no_symbol, names_of-none, names_of-short, names_of-longer, names_of-all}
use Rattle.image_writer.proofs.Strings.{strings-told}
use Rattle.image_writer.proofs.layout.strings_size.Goals as goal

pub loop-symbol-init : goal.loop-symbol-init
loop-symbol-init c = ap length (sym names_of-none)

pub overflow_add-size-in-loop-symbol : goal.overflow_add-size-in-loop-symbol
overflow_add-size-in-loop-symbol c =
    let short = names_of-short c.args.draft.now.symbols.now c.loop-symbol.symbol-index no_symbol c.loop-symbol-test.true in
    let all = ap length (strings-told c.args.draft.now) in
    omega (arith, short, all, c.loop-symbol.invariant, c.requires)

pub loop-symbol-preserved : goal.loop-symbol-preserved
loop-symbol-preserved c =
    names_of-longer c.args.draft.now.symbols.now c.loop-symbol.symbol-index no_symbol c.loop-symbol.size
    c.loop-symbol-test.true c.loop-symbol.invariant

pub returns : goal.returns
returns c =
    c.loop-symbol.invariant
    ∙ ap length (names_of-all c.args.draft.now c.loop-symbol.symbol-index c.loop-symbol-test.false)
