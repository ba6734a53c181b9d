-- Rows of one width, one after another: where row i stands, and how many bytes all of them take.
use Rattle.std.proofs.Common.{◌≡◌, ◌+◌, ◌*◌, ◌<◌, ℕ, zero, suc, List, [], ◌∷◌, ◌++◌, length, slice_index_or, refl, ◌∙◌}
use Rattle.std.proofs.Common.{arith, append_assoc, length-append}
use Rattle.std.specs.List.{flat_map}
use Rattle.std.proofs.lemmas.List.Concat.{flat_map-cons}
use Rattle.elf_records.specs.Fields.{part_at}
use Rattle.elf_records.specs.Laws.{part_at-behind, part_again}

-- rows of w bytes take w times their number
pub length_rows : {X : Type 0} (g : X → List ℕ) (w : ℕ) (xs : List X) → ((x : X) → length (g x) ≡ w)
    → length (flat_map g xs) ≡ w * length xs
length_rows g w [] each = omega arith
length_rows g w (x ∷ xs) each =
    let here = each x in
    let rest = length_rows g w xs each in
    let more = w * length xs in
    rw (flat_map-cons g x xs, length-append (g x) (flat_map g xs), here, rest) (omega arith)

-- row i, with nothing in front
row_first : {X : Type 0} (g : X → List ℕ) (w : ℕ) (xs : List X) (i : ℕ) (d : X) (back : List ℕ)
    → ((x : X) → length (g x) ≡ w) → i < length xs
    → part_at w (w * i) (flat_map g xs ++ back) ≡ g (slice_index_or xs i d)
row_first g w [] i d back each below = absurd (omega arith)
row_first g w (x ∷ xs) zero d back each below =
    let none : w * 0 ≡ 0 = omega arith in
    let here = part_again 0 [] (g x) (flat_map g xs ++ back) refl in
    rw (none, flat_map-cons g x xs, append_assoc (g x) (flat_map g xs) back, ← each x) here
row_first g w (x ∷ xs) (suc i) d back each below =
    let further : w * suc i ≡ length (g x) + w * i = omega (arith, each x) in
    rw (further, flat_map-cons g x xs, append_assoc (g x) (flat_map g xs) back)
    (part_at-behind w (w * i) (g x) (flat_map g xs ++ back) ∙ row_first g w xs i d back each (omega arith))

-- row i stands w * i bytes behind what is in front of the rows
pub row_at : {X : Type 0} (g : X → List ℕ) (w : ℕ) (xs : List X) (i : ℕ) (d : X) (at : ℕ) (front back : List ℕ)
    → length front ≡ at → ((x : X) → length (g x) ≡ w) → i < length xs
    → part_at w (at + w * i) (front ++ (flat_map g xs ++ back)) ≡ g (slice_index_or xs i d)
row_at g w xs i d at front back place each below =
    rw (← place) (part_at-behind w (w * i) front (flat_map g xs ++ back) ∙ row_first g w xs i d back each below)
