-- How far a file was changed.
use Rattle.std.specs.Prelude.{ℕ, ◌+◌, ◌==◌, if◌then◌else◌, List, [], ◌∷◌}

-- at how many places two files have different bytes; of places at which only one has a byte none counts
unfoldable pub differing : List ℕ → List ℕ → ℕ
differing [] bytes = 0
differing (byte ∷ bytes) [] = 0
differing (byte ∷ bytes) (other ∷ others) = (if byte == other then 0 else 1) + differing bytes others
