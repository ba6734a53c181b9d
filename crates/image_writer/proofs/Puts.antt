-- What writes to parts of a slice leave, as splices; and what one record behind another leaves.
use Rattle.std.proofs.Common.{ℕ, suc, ◌+◌, ◌-◌, ◌*◌, ◌<◌, ◌≤◌, ◌≡◌, List, [], ◌∷◌, ◌++◌, length, map, take, drop}
use Rattle.std.proofs.Common.{get_or, refl, sym, ap, ◌∙◌, arith, length-append, length-drop, mul-suc}
use Rattle.std.specs.List.{flat_map}
use Rattle.std.proofs.lemmas.List.{append-nil, drop-drop, length-take-le, take-append-drop, take_more}
use Rattle.std.proofs.lemmas.List.Concat.{flat_map-append}
use Rattle.std.proofs.lemmas.List.FromFn.{map-range_with_len_more}
use borrow.Rule.Slice.PartMut.{put_mid}
use Rattle.image_file.specs.Tabled.{tabled}
use Rattle.elf_records.specs.Fields.{splice}
use Rattle.elf_records.specs.Laws.{splice_more}

-- after a write to all of `bytes[at..at + n]`
pub put_mid-part : (at n : ℕ) (new bytes now : List ℕ) → length new ≡ n → now ≡ new
    → put_mid at (at + n - at) bytes now ≡ splice at new bytes
unfolding splice
put_mid-part at n new bytes now long wrote =
    let size : at + n - at ≡ n = omega arith in
    let behind : drop n (drop at bytes) ≡ drop (at + n) bytes = drop-drop n at bytes in
    rw (size, wrote, behind, long) refl

-- the part that is written has its length
pub length-part : (at n : ℕ) (bytes : List ℕ) → at + n ≤ length bytes → length (take (at + n - at) (drop at bytes)) ≡ n
length-part at n bytes inside =
    let size : at + n - at ≡ n = omega arith in
    let rest = length-drop at bytes in
    rw size (length-take-le n (drop at bytes) (omega arith))

-- nothing put changes nothing
pub splice_none : (at : ℕ) (bytes : List ℕ) → bytes ≡ splice at [] bytes
unfolding splice
splice_none at bytes =
    let place : at + 0 ≡ at = omega arith in
    rw place (sym (take-append-drop at bytes))

-- items of equal size
pub length-items : {X : Type 0} (f : X → List ℕ) (w : ℕ) (xs : List X) → ((x : X) → length (f x) ≡ w)
    → length (flat_map f xs) ≡ w * length xs
length-items f w [] equal = omega arith
length-items f w (x ∷ xs) equal =
    let rest = length-items f w xs equal in
    let first = equal x in
    let more : w * suc (length xs) ≡ w * length xs + w = mul-suc w (length xs) in
    rw (length-append (f x) (flat_map f xs), more) (omega arith)

-- the items up to the next
pub flat_map-last : {X : Type 0} (f : X → List ℕ) (xs : List X) (x : X)
    → flat_map f (xs ++ (x ∷ [])) ≡ flat_map f xs ++ f x
flat_map-last f xs x = flat_map-append f xs (x ∷ []) ∙ ap (λ ys. flat_map f xs ++ ys) (append-nil (f x))

pub flat_map-next : {X : Type 0} (f : X → List ℕ) (xs : List X) (i : ℕ) (d : X) → i < length xs
    → flat_map f (take (i + 1) xs) ≡ flat_map f (take i xs) ++ f (get_or xs i d)
flat_map-next f xs i d below = ap (flat_map f) (take_more xs i d below) ∙ flat_map-last f (take i xs) (get_or xs i d)

-- bytes put behind others, in two steps that are told one after the other
pub put_next : (at next : ℕ) (xs ys bytes out new : List ℕ) → next ≡ at + length xs → at ≤ length bytes
    → out ≡ splice at xs bytes → new ≡ splice next ys out → new ≡ splice at (xs ++ ys) bytes
put_next at next xs ys bytes out new place inside was wrote =
    wrote ∙ ap (splice next ys) was ∙ splice_more at next xs ys bytes place inside

-- an item put behind those before it
pub put_more : {X : Type 0} (f : X → List ℕ) (w at next i : ℕ) (xs : List X) (d : X) (bytes out new : List ℕ)
    → ((x : X) → length (f x) ≡ w) → i < length xs → next ≡ at + w * i → at ≤ length bytes
    → out ≡ splice at (flat_map f (take i xs)) bytes → new ≡ splice next (f (get_or xs i d)) out
    → new ≡ splice at (flat_map f (take (i + 1) xs)) bytes
put_more f w at next i xs d bytes out new equal below place inside was wrote =
    let size = length-items f w (take i xs) equal in
    let count : length (take i xs) ≡ i = length-take-le i xs (omega arith) in
    let long : length (flat_map f (take i xs)) ≡ w * i = size ∙ ap (λ n. w * n) count in
    put_next at next (flat_map f (take i xs)) (f (get_or xs i d)) bytes out new (place ∙ ap (λ n. at + n) (sym long))
    inside was wrote
    ∙ ap (λ ys. splice at ys bytes) (sym (flat_map-next f xs i d below))

-- items made of others
pub flat_map-map : {X Y : Type 0} (f : Y → List ℕ) (g : X → Y) (xs : List X)
    → flat_map f (map g xs) ≡ flat_map (λ x. f (g x)) xs
flat_map-map f g [] = refl
flat_map-map f g (x ∷ xs) = ap (λ ys. f (g x) ++ ys) (flat_map-map f g xs)

-- one number more
pub tabled-next : {X : Type 0} (f : ℕ → X) (n : ℕ) → tabled f (n + 1) ≡ tabled f n ++ (f n ∷ [])
unfolding tabled
tabled-next f n = map-range_with_len_more f 0 n n (omega arith)
