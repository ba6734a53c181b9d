-- What lists have at a place.
use Rattle.std.proofs.Common.{◌≡◌, ◌∙◌, ◌<◌, ℕ, zero, suc, List, [], ◌∷◌, get_or, length, map, Some, sym, ap, arith}
use Rattle.std.specs.Prelude.{slice_get}
use Rattle.std.proofs.lemmas.List.{length-map}

-- whatever stands past the end
pub at_any : {X : Type 0} (xs : List X) (n : ℕ) (x d : X) → n < length xs → x ≡ get_or xs n x → x ≡ get_or xs n d
at_any [] n x d h e = absurd (omega arith)
at_any (y ∷ ys) zero x d h e = e
at_any (y ∷ ys) (suc n) x d h e = at_any ys n x d (omega arith) e

pub some_at : {X : Type 0} (xs : List X) (n : ℕ) (x : X) → n < length xs → x ≡ get_or xs n x → slice_get xs n ≡ Some x
some_at [] n x h e = absurd (omega arith)
some_at (y ∷ ys) zero x h e = cc
some_at (y ∷ ys) (suc n) x h e = some_at ys n x (omega arith) e

row_at : {V A : Type 0} (f : V → List A) (all : List V) (n : ℕ) (row : V) → n < length all → row ≡ get_or all n row
    → f row ≡ get_or (map f all) n []
row_at f [] n row h e = absurd (omega arith)
row_at f (v ∷ vs) zero row h e = ap f e
row_at f (v ∷ vs) (suc n) row h e = row_at f vs n row (omega arith) e

-- one of rows, as code holds it
pub row_is : {V A : Type 0} (f : V → List A) (all : List V) (rows : List (List A)) (n : ℕ) (row : V) → map f all ≡ rows
    → n < length rows → row ≡ get_or all n row → f row ≡ get_or rows n []
row_is f all rows n row e h is =
    let below : n < length all = omega (arith, length-map all f, ap length e) in
    row_at f all n row below is ∙ ap (λ r. get_or r n []) e

-- what is made of the element there
pub mapped_at : {X Y : Type 0} (f : X → Y) (xs : List X) (n : ℕ) (x : X) (y : Y) → n < length xs → x ≡ get_or xs n x
    → y ≡ get_or (map f xs) n y → y ≡ f x
mapped_at f [] n x y h e is = absurd (omega arith)
mapped_at f (z ∷ zs) zero x y h e is = is ∙ ap f (sym e)
mapped_at f (z ∷ zs) (suc n) x y h e is = mapped_at f zs n x y (omega arith) e is

-- of two lists that come to the same
pub both_at : {X Z Y : Type 0} (f : X → Y) (g : Z → Y) (xs : List X) (zs : List Z) (n : ℕ) (x : X) (z : Z)
    → map f xs ≡ map g zs → n < length xs → n < length zs
    → x ≡ get_or xs n x → z ≡ get_or zs n z → f x ≡ g z
both_at f g [] zs n x z same h k e i = absurd (omega arith)
both_at f g (a ∷ xs) [] n x z same h k e i = absurd (omega arith)
both_at f g (a ∷ xs) (b ∷ zs) zero x z same h k e i = let heads : f a ≡ g b = cc in ap f e ∙ heads ∙ ap g (sym i)
both_at f g (a ∷ xs) (b ∷ zs) (suc n) x z same h k e i = let tails : map f xs ≡ map g zs = cc in
    both_at f g xs zs n x z tails (omega arith) (omega arith) e i
