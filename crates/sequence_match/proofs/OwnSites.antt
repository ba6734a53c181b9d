-- What is left of a list from a place on, and the sites of one object among those of all.
use Rattle.std.proofs.Common.{◌≡◌, ◌+◌, ◌<◌, ◌∙◌, ℕ, suc, List, [], ◌∷◌, drop, map, sym, ap, length, arith}
use Rattle.std.specs.Global.{Vec}
use Rattle.std.specs.Prelude.{slice_index_or}
use Rattle.std.proofs.Math.Seq.{drop-cons}
use Rattle.std.proofs.lemmas.List.{get_or-map, get_or_default}
use Rattle.sequence_forms.specs.declared.places.Site.{Site}

-- what is left of a list from a place on
pub drop_here : {X : Type 0} (xs : List X) (i : ℕ) (x : X) → x ≡ slice_index_or xs i x → i < length xs
    → drop i xs ≡ x ∷ drop (i + 1) xs
drop_here xs i x is below =
    let next : suc i ≡ i + 1 = omega arith in
    drop-cons xs i x below ∙ ap (λ y. y ∷ drop (suc i) xs) (sym is) ∙ ap (λ m. x ∷ drop m xs) next

pub drop_at : {X : Type 0} (xs : List X) (i : ℕ) (d : X) → i < length xs
    → drop i xs ≡ slice_index_or xs i d ∷ drop (i + 1) xs
drop_at xs i d below = drop_here xs i (slice_index_or xs i d)
    (get_or_default xs i d (slice_index_or xs i d) below) below

-- what stands at a place
pub own_sites : (sites : List (Vec Site)) (i : ℕ) (own : Vec Site) → own ≡ slice_index_or sites i own → i < length sites
    → slice_index_or (map (λ v. v.items) sites) i [] ≡ own.items
own_sites sites i own is below = get_or-map (λ v. v.items) sites i own [] below ∙ ap (λ v. v.items) (sym is)
