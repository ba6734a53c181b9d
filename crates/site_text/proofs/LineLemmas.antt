-- The step of a loop that writes the lines of pairs: the text so far is that of the front of the pairs.
use Rattle.std.proofs.Common.{◌≡◌, ◌∙◌, ℕ, ◌+◌, ◌<◌, List, [], ◌∷◌, ◌++◌, length, get_or, min, take, sym, ap}
use Rattle.std.proofs.Common.{append-nil, length-append, arith}
use Rattle.std.specs.List.{flat_map, zip}
use Rattle.std.proofs.lemmas.List.{take_all, take_more}
use Rattle.std.proofs.lemmas.List.Concat.{flat_map-append}
use Rattle.std.proofs.lemmas.Slice.Zip.{get_or-zip, length-zip}

-- one more pair, behind as many as were done
pub one_more : {X Y Z : Type 0} (f : X × Y → List ℕ) (xs : List X) (ys : List Y) (done : List Z) (z : Z) (x : X) (y : Y)
    (now next : List ℕ)
    → length done < length xs → length done < length ys → x ≡ get_or xs (length done) x → y ≡ get_or ys (length done) y
    → next ≡ now ++ f (x, y)
    → now ≡ flat_map f (take (length done) (zip xs ys))
    → next ≡ flat_map f (take (length (done ++ (z ∷ []))) (zip xs ys))
one_more f xs ys done z x y now next left right first second e inv =
    let on : length (done ++ (z ∷ [])) ≡ length done + 1 = omega (arith, length-append done (z ∷ [])) in
    let inside : length done < length (zip xs ys) = rw (length-zip xs ys) (omega arith) in
    let pair : get_or (zip xs ys) (length done) (x, y) ≡ (x, y) = get_or-zip xs ys (length done) (x, y) left right
    ∙ cc in
    let long : flat_map f (take (length done + 1) (zip xs ys)) ≡ flat_map f (take (length done) (zip xs ys))
    ++ (f (get_or (zip xs ys) (length done) (x, y)) ++ []) =
    ap (flat_map f) (take_more (zip xs ys) (length done) (x, y) inside)
    ∙ flat_map-append f (take (length done) (zip xs ys)) (get_or (zip xs ys) (length done) (x, y) ∷ []) in
    e ∙ ap (λ l. l ++ f (x, y)) inv
    ∙ ap (λ l. flat_map f (take (length done) (zip xs ys)) ++ l)
    (sym (append-nil (f (x, y))) ∙ ap (λ p. f p ++ []) (sym pair))
    ∙ sym long ∙ ap (λ n. flat_map f (take n (zip xs ys))) (sym on)

-- all pairs
pub all_pairs : {X Y : Type 0} (f : X × Y → List ℕ) (xs : List X) (ys : List Y) (i : ℕ) (now : List ℕ)
    → i ≡ min (length xs) (length ys)
    → now ≡ flat_map f (take i (zip xs ys)) → now ≡ flat_map f (zip xs ys)
all_pairs f xs ys i now past inv = inv ∙ ap (flat_map f) (take_all i (zip xs ys) (rw (length-zip xs ys) (omega arith)))
