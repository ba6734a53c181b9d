-- Some bytes of a list once others stand in the place of some.
use Rattle.std.proofs.Common.{◌≡◌, ℕ, ◌+◌, ◌-◌, ◌≤◌, List, [], ◌++◌, length, sym, ap, ◌∙◌, arith}
use Rattle.std.specs.Prelude.{take, drop, slice_range}
use Rattle.std.proofs.lemmas.List.{take-append-drop, drop-drop}
use Rattle.std.proofs.lemmas.Slice.{between_is, take-put_mid_below, drop-put_mid, between-put_mid}
use borrow.Rule.Slice.PartMut.{put_mid}
use Rattle.thread_vector.specs.Vectors.{over}

over_is : (a k : ℕ) (xs w : List ℕ) → over a k xs w ≡ put_mid a k xs w
over_is a k xs w = ap (λ (t : List ℕ). take a xs ++ (w ++ t)) (sym (drop-drop k a xs))

pub range_same : (a k : ℕ) (xs w : List ℕ) → a + k ≤ length xs → length w ≡ k
    → slice_range (over a k xs w) a (a + k) ≡ w
range_same a k xs w l e = ap (λ (t : List ℕ). slice_range t a (a + k)) (over_is a k xs w)
    ∙ between-put_mid a k xs w (a + k) (omega arith) (omega (arith, e))

pub range_below : (a k : ℕ) (xs w : List ℕ) (i j : ℕ) → a ≤ length xs → j ≤ a
    → slice_range (over a k xs w) i j ≡ slice_range xs i j
range_below a k xs w i j l h =
    ap (λ (t : List ℕ). slice_range t i j) (over_is a k xs w) ∙ between_is (put_mid a k xs w) i j
    ∙ ap (λ (t : List ℕ). drop i t) (take-put_mid_below a k xs w j h l) ∙ sym (between_is xs i j)

pub range_above : (a k : ℕ) (xs w : List ℕ) (i j : ℕ) → a ≤ length xs → length w ≡ k → a + k ≤ i
    → slice_range (over a k xs w) i j ≡ slice_range xs i j
range_above a k xs w i j l e h =
    ap (λ (t : List ℕ). slice_range t i j) (over_is a k xs w)
    ∙ ap (λ (t : List ℕ). take (j - i) t) (drop-put_mid a k xs w i h l e)

-- no bytes over none
pub over_none : (a : ℕ) (xs : List ℕ) → over a 0 xs [] ≡ xs
over_none a xs = let e : a + 0 ≡ a = omega arith in rw e (take-append-drop a xs)
