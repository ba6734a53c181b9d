-- What is found so far, or is left.
use Rattle.std.proofs.Common.{◌≡◌, ◌+◌, ℕ, List, drop}
use Rattle.std.specs.Option.{option_or}
use Rattle.loaded_modules.specs.Exported.{found}
use Rattle.loaded_modules.specs.Loader.{shared_from}
use Rattle.loaded_modules.proofs.exports.Exports.of.Given as goal

abbrev pub invariant-loop-index : goal.invariant-loop-index
invariant-loop-index l = (q : List ℕ) →
    option_or (found l.exports.by_name q) (shared_from q (l.index + 1) (drop l.index l.kinds) (drop l.index l.images))
    ≡ shared_from q 1 l.kinds l.images
