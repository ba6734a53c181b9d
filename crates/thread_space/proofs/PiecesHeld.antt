-- What the code keeps of an instance's data as a program begins, and after a load.
use Rattle.std.proofs.Common.{◌≡◌, ◌∙◌, ◌<◌, ◌≤◌, ◌==◌, ◌+◌, ℕ, true, List, ◌∷◌, length, Some, ap}
use Rattle.std.specs.Prelude.{option_and_then}
use Rattle.loaded_modules.specs.declared.instance.Instance.{Instance}
use Rattle.loaded_modules.specs.Images.{JobImages}
use Rattle.module_data.specs.Parts.{fresh_data}
use Rattle.module_data.specs.Pieces.{Piece, bytes_of_instance, data_of, first_data, first_instance, fresh_piece, loaded}
use Rattle.module_data.specs.Pieces.{starts_at}
use Rattle.module_data.proofs.Written.{first_at, get_same, own}

-- ** loads

pub loaded_own : (m : JobImages) (x : Instance) (d : List Piece) → 1 ≤ x.number → x.image < length d
    → data_of (loaded m x d) x.number x.image ≡ Some (fresh_data m x)
unfolding data_of loaded
loaded_own m x d low within =
    ap (option_and_then (bytes_of_instance x.number)) (get_same d x.image (fresh_piece m x) within)
    ∙ own x.number (fresh_data m x) low

-- ** a program that begins

pub first_own : (m : JobImages) (number : ℕ) → 1 ≤ number → number ≤ length m.images → starts_at m number ≡ true
    → data_of (first_data m) number number ≡ Some (fresh_data m (first_instance m number))
unfolding data_of
first_own m number low within is =
    ap (option_and_then (bytes_of_instance number)) (first_at m number within)
    ∙ rw is (own number (fresh_data m (first_instance m number)) low)
