-- An image of whose parts none is written, or one alone, the global offset table, has no data.
use Rattle.std.proofs.Common.{◌≡◌, ◌∙◌, ◌+◌, ◌==◌, ℕ, zero, suc, Bool, true, false, not, List, [], ◌∷◌, ◌++◌}
use Rattle.std.proofs.Common.{Some, None, length, refl, sym, ap, arith}
use Rattle.std.specs.Prelude.{◌&&◌, slice_get}
use Rattle.std.specs.List.{All, find, range_with_len}
use Rattle.std.proofs.lemmas.Bool.{true≢false}
use Rattle.std.proofs.lemmas.Bool.Decides.{nat_tests}
use Rattle.std.proofs.lemmas.List.Elements.{All-head, All-tail}
use Rattle.image_file.specs.Spelled.{Part, Spelled, is_writable}
use Rattle.module_data.specs.Parts.{data_part, has_writable, is_data_part, is_number}

abbrev pub IsStill : Part → Type 0
IsStill part = is_writable part.class ≡ false

-- ** one part

-- none of these is written
none_written : (parts : List Part) → All IsStill parts → (k : ℕ) → has_writable (slice_get parts k) ≡ false
none_written [] still k = refl
none_written (part ∷ parts) still zero = All-head IsStill part parts still
none_written (part ∷ parts) still (suc k) = none_written parts (All-tail IsStill part parts still) k

-- of these at most the one between still ones is
table_alone : (front : List Part) (table : Part) (rest : List Part) → All IsStill front → All IsStill rest → (k : ℕ)
    → has_writable (slice_get (front ++ table ∷ rest) k) ≡ true → k ≡ length front
table_alone [] table rest before behind zero is = refl
table_alone [] table rest before behind (suc k) is = absurd (true≢false (sym is ∙ none_written rest behind k))
table_alone (part ∷ front) table rest before behind zero is =
    absurd (true≢false (sym is ∙ All-head IsStill part front before))
table_alone (part ∷ front) table rest before behind (suc k) is =
    ap suc (table_alone front table rest (All-tail IsStill part front before) behind k is)

-- which is the loader's
is_loaders : (parts : List Part) (number k : ℕ) → (has_writable (slice_get parts k) ≡ true → k ≡ number)
    → (has_writable (slice_get parts k) && not (is_number (Some number) k)) ≡ false
is_loaders parts number k alone = of_test (has_writable (slice_get parts k)) alone
  where
    same : (n : ℕ) → not (n == n) ≡ false
    same n = ap not (let e : (n == n) ≡ true = grind (arith, nat_tests) in e)

    of_test : (t : Bool) → (t ≡ true → k ≡ number) → (t && not (number == k)) ≡ false
    of_test true alone = ap (λ n. not (number == n)) (alone refl) ∙ same number
    of_test false alone = refl

-- ** all parts

none_found : (test : ℕ → Bool) → ((k : ℕ) → test k ≡ false) → (a n : ℕ) → find test (range_with_len a n) ≡ None
none_found test each a zero = refl
none_found test each a (suc n) = rw (each a) (none_found test each (a + 1) n)

no_data : (image : Spelled) → ((k : ℕ) → is_data_part image k ≡ false) → data_part image ≡ None
unfolding data_part
no_data image each = none_found (is_data_part image) each 0 (length image.parts)

-- where none is written
pub still_parts : (image : Spelled) → All IsStill image.parts → data_part image ≡ None
unfolding is_data_part
still_parts image still =
    no_data image (λ k. ap (λ t. t && not (is_number image.got k)) (none_written image.parts still k))

-- where one is, and the loader alone writes it
pub table_part : (image : Spelled) (front : List Part) (table : Part) (rest : List Part) → All IsStill front
    → All IsStill rest → image.parts ≡ front ++ table ∷ rest → image.got ≡ Some (length front) → data_part image ≡ None
unfolding is_data_part
table_part image front table rest before behind parts got =
    no_data image (λ k.
    ap (λ number. has_writable (slice_get image.parts k) && not (is_number number k)) got
    ∙ ap (λ xs. has_writable (slice_get xs k) && not (is_number (Some (length front)) k)) parts
    ∙ is_loaders (front ++ table ∷ rest) (length front) k (table_alone front table rest before behind k))
