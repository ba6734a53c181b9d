-- The images so far.
use Rattle.std.proofs.Common.{◌≡◌, ◌++◌, drop, map}
use Rattle.loaded_modules.specs.Exported.{found}
use Rattle.loaded_modules.proofs.exports.imports_of.Given as goal

abbrev pub invariant-loop-image : goal.invariant-loop-image
invariant-loop-image l =
    map (λ row. row.items) l.rows.items
    ++ map (λ image. map (found l.exports.by_name) image.names) (drop l.image-index l.images)
    ≡ map (λ image. map (found l.exports.by_name) image.names) l.images
