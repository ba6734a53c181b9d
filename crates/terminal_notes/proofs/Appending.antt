-- A list that is appended item by item.
use Rattle.std.proofs.Common.{◌≡◌, ℕ, ◌+◌, ◌<◌, List, ◌++◌, get_or, length, take, sym, ap, ◌∙◌}
use Rattle.std.proofs.lemmas.List.{flat_map_more, take_more}
use Rattle.std.specs.List.{flat_map}

pub one_more : {X : Type 0} (f : X → List ℕ) (start before after : List ℕ) (xs : List X) (i : ℕ) (d : X)
    → i < length xs → before ≡ start ++ flat_map f (take i xs) → after ≡ before ++ f (get_or xs i d)
    → after ≡ start ++ flat_map f (take (i + 1) xs)
one_more f start before after xs i d inside is more =
    more ∙ ap (λ bytes. bytes ++ f (get_or xs i d)) is ∙ flat_map_more f start (take i xs) (get_or xs i d)
    ∙ ap (λ some. start ++ flat_map f some) (sym (take_more xs i d inside))
