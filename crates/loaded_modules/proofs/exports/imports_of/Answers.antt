use Rattle.std.proofs.Common.{◌∙◌, map, arith}
use Rattle.image_file.specs.Spelled.{Spelled}
use Rattle.loaded_modules.specs.Exported.{found}
use Rattle.loaded_modules.specs.Loader.{shared_from}
use Rattle.loaded_modules.proofs.Left.{row_past, map_same}
use Rattle.loaded_modules.proofs.exports.imports_of.Goals as goal

pub returns : goal.returns
returns c =
    let find = found c.in_ok-exports.exports.by_name in
    let images = c.args.images.now in
    row_past (λ (image : Spelled). map find image.names) images c.loop-image.image-index _ _
    (omega arith) c.loop-image.invariant
    ∙ map_same (λ (image : Spelled). map find image.names)
    (λ (image : Spelled). map (λ name. shared_from name 1 c.args.kinds.now images) image.names)
    (λ image. map_same find
    (λ name. shared_from name 1 c.args.kinds.now images) c.in_ok-exports.ensures image.names) images
