-- The parts of an instance of an image that a linker makes.
use Rattle.std.proofs.Common.{◌≡◌, ◌∙◌, ℕ, List, Some, sym, ap, subst}
use Rattle.std.specs.Prelude.{slice_get}
use Rattle.image_file.specs.Spelled.{Part}
use Rattle.image_writer.specs.Contents.{Contents}
use Rattle.image_writer.specs.Tables.{finished}
use Rattle.loaded_modules.specs.declared.instance.Instance.{Instance}
use Rattle.loaded_modules.specs.Images.{JobImages}
use Rattle.loaded_modules.specs.Loader.{part_bytes}
use Rattle.loaded_modules.specs.LoaderLaws.{bytes_or_none, loaded_in, loaded_part}
use Rattle.relocated_parts.specs.Laws.{IsLeft, IsMade, LoadedPartsAreLeft}
use Rattle.relocated_parts.proofs.Fold.{parts_left}
use Rattle.relocated_parts.proofs.Parts.{all_whole}

pub part_left : (m : JobImages) (c : Contents) (x : Instance) (i : ℕ) (part : Part) → IsMade m c x
    → slice_get (finished c).parts i ≡ Some part → IsLeft m (finished c) x part (part_bytes m (finished c) x part)
unfolding finished
part_left m c x i part made is =
    parts_left m (finished c) x part made.linkable.rising (all_whole c made.linkable i part is)

loaded_is : (m : JobImages) (c : Contents) (x : Instance) (i : ℕ) (part : Part) → IsMade m c x
    → slice_get (finished c).parts i ≡ Some part → loaded_part m x i ≡ part_bytes m (finished c) x part
unfolding loaded_part
loaded_is m c x i part made is = ap (λ image. loaded_in m x image i) made.image ∙ ap (bytes_or_none m (finished c) x) is

-- the law
pub loaded_left : LoadedPartsAreLeft
loaded_left m c x i part made is =
    subst (λ (bytes : List ℕ). IsLeft m (finished c) x part bytes) (sym (loaded_is m c x i part made is))
    (part_left m c x i part made is)
