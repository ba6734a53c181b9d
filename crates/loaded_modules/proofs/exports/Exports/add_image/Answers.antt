use Rattle.std.proofs.Common.{arith}
use Rattle.loaded_modules.specs.Exported.{found}
use Rattle.loaded_modules.proofs.Sharing.{symbol_on, symbols_past}
use Rattle.loaded_modules.proofs.exports.Exports.add_image.Goals as goal

pub loop-symbol-preserved : goal.loop-symbol-preserved
loop-symbol-preserved c =
    let image = c.args.image.now in
    symbol_on image.symbols image.names c.args.number c.loop-symbol.symbol (found c.loop-symbol.self.by_name)
    (found c.add_symbol.new.self.by_name) _ c.in_ok-add_symbol.ensures c.loop-symbol.invariant

pub returns : goal.returns
returns c =
    let image = c.args.image.now in
    symbols_past image.symbols image.names c.args.number c.loop-symbol.symbol (found c.loop-symbol.self.by_name)
    (found c.loop-symbol.self.by_name) _ (omega arith) c.loop-symbol.invariant
