use Rattle.loaded_modules.specs.Exported.{found}
use Rattle.loaded_modules.proofs.Left.{row_on, row_same}
use Rattle.loaded_modules.proofs.exports.Exports.for_image.Goals as goal
use Rattle.loaded_modules.proofs.exports.Exports.for_image.Goals.{in-Some+in_ok-push, in_default}

pub loop-symbol-preserved : goal.loop-symbol-preserved
loop-symbol-preserved c =
    let names = c.args.image.now.names in
    let find = found c.args.self.now.by_name in
    elim c.match-symbol_name.branch [
      | in-Some+in_ok-push w ↦ rw (w.row-is, w.in_ok-push.ensures.items, w.get.ensures)
          (row_on find names c.loop-symbol.symbol c.loop-symbol.row.items _ _ w.in-Some.ensures c.loop-symbol.invariant)
      | in_default w ↦ rw w.row-is
          (row_same find names c.loop-symbol.symbol c.loop-symbol.row.items _ w.in_default.ensures c.loop-symbol.invariant)
    ]
