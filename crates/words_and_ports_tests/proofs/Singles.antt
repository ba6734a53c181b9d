-- Pieces of one byte each.
use Rattle.std.proofs.Common.{◌≡◌, ◌∙◌, ◌-◌, ℕ, List, [], ◌∷◌, ap, drop, map, refl, slice_range, take}
use Rattle.std.proofs.lemmas.List.{drop-map, take-map}
use Rattle.file_bytes.specs.Pieces.{joined}

pub joined_singles : (bytes : List ℕ) → joined (map (λ byte. byte ∷ []) bytes) ≡ bytes
joined_singles [] = refl
joined_singles (byte ∷ bytes) = ap (λ rest. byte ∷ rest) (joined_singles bytes)

pub front_of_singles : (number : ℕ) (bytes : List ℕ)
    → joined (take number (map (λ byte. byte ∷ []) bytes)) ≡ take number bytes
front_of_singles number bytes = ap joined (take-map (λ byte. byte ∷ []) number bytes)
    ∙ joined_singles (take number bytes)

pub run_of_singles : (from to : ℕ) (bytes : List ℕ)
    → joined (slice_range (map (λ byte. byte ∷ []) bytes) from to) ≡ slice_range bytes from to
run_of_singles from to bytes =
    ap (λ rest. joined (take (to - from) rest)) (drop-map (λ byte. byte ∷ []) from bytes)
    ∙ front_of_singles (to - from) (drop from bytes)
