-- The list of a function's values at 0, 1, .. up to a number.
use Rattle.std.proofs.Common.{◌≡◌, ◌<◌, ◌≤◌, ◌∙◌, ℕ, List, map, length, Some, None, ap, arith}
use Rattle.std.specs.List.{slice_get, range_with_len}
use Rattle.std.proofs.lemmas.List.FromFn.{length-map-range_with_len, get_or-map-range_with_len}
use Rattle.std.proofs.lemmas.Option.{slice_get-get_or, slice_get_past}

-- f 0, f 1, .. up to f (n - 1)
unfoldable pub tabled : {X : Type 0} → (ℕ → X) → ℕ → List X
tabled f n = map f (range_with_len 0 n)

pub length-tabled : {X : Type 0} (f : ℕ → X) (n : ℕ) → length (tabled f n) ≡ n
unfolding tabled
length-tabled f n = length-map-range_with_len f 0 n

-- what stands at a number of the list
pub tabled_at : {X : Type 0} (f : ℕ → X) (n i : ℕ) → i < n → slice_get (tabled f n) i ≡ Some (f i)
unfolding tabled
tabled_at f n i h =
    let long = length-map-range_with_len f 0 n in
    slice_get-get_or (map f (range_with_len 0 n)) i (f 0) (omega (arith, long))
    ∙ ap Some (get_or-map-range_with_len f 0 n i i (f 0) h (omega arith))

-- nothing stands past its end
pub tabled_past : {X : Type 0} (f : ℕ → X) (n i : ℕ) → n ≤ i → slice_get (tabled f n) i ≡ None
unfolding tabled
tabled_past f n i h =
    let long = length-map-range_with_len f 0 n in
    slice_get_past (map f (range_with_len 0 n)) i (omega (arith, long))
