-- The image of a number.
use Rattle.std.proofs.Common.{◌≡◌, ◌∙◌, ℕ, zero, suc, List, Some, ap}
use Rattle.std.specs.Prelude.{option_map}
use Rattle.std.proofs.lemmas.Option.{slice_get-map}
use Rattle.link_core.specs.Images.{image_of}
use Rattle.link_needs.specs.Linking.{Linking}
use Rattle.loaded_bytes.specs.Laws.{images_of}
use Rattle.loaded_modules.specs.Images.{image_at}
use Rattle.thread_blocks.specs.Turns.{at_number}

pub image_is : (ls : List Linking) (l : Linking) (number : ℕ) → at_number ls number ≡ Some l
    → image_at (images_of ls) number ≡ Some (image_of l)
unfolding image_at
image_is ls l zero e = cc
image_is ls l (suc i) e = slice_get-map image_of ls i ∙ ap (option_map image_of) e
