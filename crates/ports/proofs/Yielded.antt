-- A list that goes together with another, taken item by item.
use Rattle.std.proofs.Common.{◌≡◌, ◌∙◌, ◌+◌, ◌<◌, List, [], ◌∷◌, ◌++◌, arith, ap, get_or, length, refl, subst, suc}
use Rattle.std.proofs.Common.{take}
use Rattle.std.proofs.lemmas.List.{take_all}
use Rattle.std.specs.Iterator.{Yields}
use Rattle.std.specs.List.{AllZip}
use Rattle.std.specs.Vec.Iter.{into_iter_items, into_iter_len, into_iter_steps}
use Rattle.std.specs.declared.vec.IntoIter.{IntoIter}

-- what a list gave, and what it still has
given_first : {X Z : Type 0} (xs : List X) (s t : IntoIter X Z) → Yields into_iter_steps s xs t
    → into_iter_items s ≡ xs ++ into_iter_items t
given_first [] s t e = ap into_iter_items e
given_first (x ∷ xs) s t more = more.1.0 ∙ ap (λ l. x ∷ l) (given_first xs more.0 t more.2)

pub given_count : {X Z : Type 0} (xs : List X) (s t : IntoIter X Z) → Yields into_iter_steps s xs t
    → into_iter_len s ≡ length xs + into_iter_len t
given_count [] s t e = omega (arith, ap into_iter_len e)
given_count (x ∷ xs) s t more = omega (arith, more.1.1, given_count xs more.0 t more.2)

-- what stands at a place of two lists that go together
pub zipped_at : {X Y : Type 0} (R : X → Y → Type 0) (xs : List X) (before : List Y) (y : Y) (after : List Y) (d : X)
    → AllZip R xs (before ++ y ∷ after) → (length before < length xs) × R (get_or xs (length before) d) y
zipped_at R [] [] y after d h = absurd h
zipped_at R [] (b ∷ before) y after d h = absurd h
zipped_at R (x ∷ xs) [] y after d h = (omega arith, h.0)
zipped_at R (x ∷ xs) (b ∷ before) y after d h =
    let more = zipped_at R xs before y after d h.1 in
    (omega (arith, more.0), more.1)

-- the next item of a list that goes together with another
pub next_of : {X Y Z : Type 0} (R : X → Y → Type 0) (xs : List X) (s t u : IntoIter Y Z) (before : List Y) (y : Y)
    (d : X)
    → AllZip R xs (into_iter_items s) → Yields into_iter_steps s before t → into_iter_items t ≡ y ∷ into_iter_items u
    → (length before < length xs) × R (get_or xs (length before) d) y
next_of R xs s t u before y d all gave next =
    zipped_at R xs before y (into_iter_items u) d
    (subst (AllZip R xs) (given_first before s t gave ∙ ap (λ l. before ++ l) next) all)

-- a list up to as many as there are of another that goes together with it
pub same_length : {X Y : Type 0} (R : X → Y → Type 0) (xs : List X) (ys : List Y) → AllZip R xs ys
    → length ys ≡ length xs
same_length R [] [] h = refl
same_length R [] (y ∷ ys) h = absurd h
same_length R (x ∷ xs) [] h = absurd h
same_length R (x ∷ xs) (y ∷ ys) h = ap suc (same_length R xs ys h.1)

pub as_many : {X Y : Type 0} (R : X → Y → Type 0) (xs : List X) (ys zs : List Y) → AllZip R xs ys
    → length zs ≡ length ys
    → take (length zs) xs ≡ xs
as_many R xs ys zs all e = ap (λ n. take n xs) (e ∙ same_length R xs ys all) ∙ take_all (length xs) xs (omega arith)
