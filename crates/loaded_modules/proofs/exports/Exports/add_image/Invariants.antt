-- What is found so far, or is left.
use Rattle.std.proofs.Common.{◌≡◌, ℕ, List, drop, option_map}
use Rattle.std.specs.Option.{option_or}
use Rattle.loaded_modules.specs.Exported.{found}
use Rattle.loaded_modules.specs.Loader.{export_in, shared_among, shared_offset}
use Rattle.loaded_modules.proofs.exports.Exports.add_image.Given as goal

abbrev pub invariant-loop-symbol : goal.invariant-loop-symbol
invariant-loop-symbol l = (q : List ℕ) →
    option_or (found l.self.by_name q)
    (option_map (export_in l.number) (shared_among q (drop l.symbol l.image.symbols) (drop l.symbol l.image.names)))
    ≡ option_or (found l.fn.self.by_name q) (option_map (export_in l.number) (shared_offset q l.image))
