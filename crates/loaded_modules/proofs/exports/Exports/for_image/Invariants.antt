-- The symbols so far.
use Rattle.std.proofs.Common.{◌≡◌, ◌++◌, drop, map}
use Rattle.loaded_modules.specs.Exported.{found}
use Rattle.loaded_modules.proofs.exports.Exports.for_image.Given as goal

abbrev pub invariant-loop-symbol : goal.invariant-loop-symbol
invariant-loop-symbol l =
    l.row.items ++ map (found l.self.by_name) (drop l.symbol l.image.names) ≡ map (found l.self.by_name) l.image.names
