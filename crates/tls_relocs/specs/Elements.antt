-- The element at a place of lists that are joined, cut or spliced.
use Rattle.std.proofs.Common.{◌≡◌, ◌+◌, ◌-◌, ◌<◌, ◌≤◌, ℕ, zero, suc, Some, List, [], ◌∷◌, ◌++◌, length, take, drop}
use Rattle.std.proofs.Common.{refl, ap, ◌∙◌, arith}
use Rattle.std.specs.Prelude.{slice_get, replicate}
use Rattle.std.proofs.lemmas.List.{length-take-le}
use Rattle.elf_records.specs.Fields.{splice}

-- in the first of two lists
pub slice_get-append : {X : Type 0} (xs ys : List X) (k : ℕ) → k < length xs
    → slice_get (xs ++ ys) k ≡ slice_get xs k
slice_get-append [] ys k inside = absurd (omega arith)
slice_get-append (x ∷ xs) ys zero inside = refl
slice_get-append (x ∷ xs) ys (suc k) inside = slice_get-append xs ys k (omega arith)

-- in the second
pub slice_get-append_behind : {X : Type 0} (xs ys : List X) (k : ℕ) → length xs ≤ k
    → slice_get (xs ++ ys) k ≡ slice_get ys (k - length xs)
slice_get-append_behind [] ys k behind = let same : k ≡ k - 0 = omega arith in ap (slice_get ys) same
slice_get-append_behind (x ∷ xs) ys zero behind = absurd (omega arith)
slice_get-append_behind (x ∷ xs) ys (suc k) behind =
    let same : k - length xs ≡ suc k - suc (length xs) = omega arith in
    slice_get-append_behind xs ys k (omega arith) ∙ ap (slice_get ys) same

pub slice_get-take : {X : Type 0} (n k : ℕ) (xs : List X) → k < n → slice_get (take n xs) k ≡ slice_get xs k
slice_get-take zero k xs below = absurd (omega arith)
slice_get-take (suc n) k [] below = refl
slice_get-take (suc n) zero (x ∷ xs) below = refl
slice_get-take (suc n) (suc k) (x ∷ xs) below = slice_get-take n k xs (omega arith)

pub slice_get-drop : {X : Type 0} (n k : ℕ) (xs : List X) → slice_get (drop n xs) k ≡ slice_get xs (n + k)
slice_get-drop zero k xs = let same : k ≡ zero + k = omega arith in ap (slice_get xs) same
slice_get-drop (suc n) k [] = refl
slice_get-drop (suc n) k (x ∷ xs) =
    let same : suc (n + k) ≡ suc n + k = omega arith in
    slice_get-drop n k xs ∙ ap (slice_get (x ∷ xs)) same

pub slice_get-replicate : {X : Type 0} (n k : ℕ) (x : X) → k < n → slice_get (replicate n x) k ≡ Some x
slice_get-replicate zero k x below = absurd (omega arith)
slice_get-replicate (suc n) zero x below = refl
slice_get-replicate (suc n) (suc k) x below = slice_get-replicate n k x (omega arith)

-- before what was written
pub slice_get-splice_before : (at k : ℕ) (new old : List ℕ) → at + length new ≤ length old → k < at
    → slice_get (splice at new old) k ≡ slice_get old k
unfolding splice
slice_get-splice_before at k new old inside before =
    let front : length (take at old) ≡ at = length-take-le at old (omega arith) in
    let there : k < length (take at old) = omega arith in
    slice_get-append (take at old) (new ++ drop (at + length new) old) k there ∙ slice_get-take at k old before

-- inside what was written
pub slice_get-splice_within : (at k : ℕ) (new old : List ℕ) → at + length new ≤ length old → at ≤ k
    → k < at + length new → slice_get (splice at new old) k ≡ slice_get new (k - at)
unfolding splice
slice_get-splice_within at k new old inside above below =
    let front : length (take at old) ≡ at = length-take-le at old (omega arith) in
    let past : length (take at old) ≤ k = omega arith in
    let there : k - at < length new = omega arith in
    slice_get-append_behind (take at old) (new ++ drop (at + length new) old) k past
    ∙ ap (λ n. slice_get (new ++ drop (at + length new) old) (k - n)) front
    ∙ slice_get-append new (drop (at + length new) old) (k - at) there

-- after what was written
pub slice_get-splice_after : (at k : ℕ) (new old : List ℕ) → at + length new ≤ length old → at + length new ≤ k
    → slice_get (splice at new old) k ≡ slice_get old k
unfolding splice
slice_get-splice_after at k new old inside after =
    let front : length (take at old) ≡ at = length-take-le at old (omega arith) in
    let past : length (take at old) ≤ k = omega arith in
    let there : length new ≤ k - at = omega arith in
    let same : at + length new + (k - at - length new) ≡ k = omega arith in
    slice_get-append_behind (take at old) (new ++ drop (at + length new) old) k past
    ∙ ap (λ n. slice_get (new ++ drop (at + length new) old) (k - n)) front
    ∙ slice_get-append_behind new (drop (at + length new) old) (k - at) there
    ∙ slice_get-drop (at + length new) (k - at - length new) old
    ∙ ap (slice_get old) same
