-- The names of the symbols, as the string table holds them.
use Rattle.std.proofs.Common.{◌≡◌, ◌≢◌, ◌+◌, ◌<◌, ◌≤◌, ◌==◌, ℕ, zero, suc, true, false, List, [], ◌∷◌, ◌++◌, All}
use Rattle.std.proofs.Common.{length, take, drop, get_or, sum_by, codes, refl, sym, ap, ◌∙◌, arith, length-append}
use Rattle.std.proofs.Common.{length-drop}
use Rattle.std.proofs.Common.{get_or-drop, get_or-take, append_assoc, slice_index, take_at, drop_at, drop-drop}
use Rattle.std.specs.List.{flat_map, before_first}
use Rattle.std.proofs.lemmas.List.{drop_more, get_or_at, get_or_append_left}
use Rattle.std.proofs.lemmas.List.Sums.{sum_by-cons, position_or_len_is}
use Rattle.std.proofs.lemmas.Bool.{ne_eqb}
use Rattle.elf_records.specs.Fields.{part_at}
use Rattle.elf_records.specs.Laws.{part_at-own}
use Rattle.image_faults.specs.declared.symbol_tests.TheConstants.{GET_ADDRESS_STRING}
use Rattle.elf_records.specs.Strings.{Ends}
use Rattle.image_file.specs.Spelled.{text_at}
use Rattle.image_writer.specs.Tables.{name_bytes}

-- where name k of these begins
abbrev pub begin : List (List ℕ) → ℕ → ℕ
begin names k = sum_by (λ name. length name + 1) (take k names)

-- from there on stand the names from number k on
rest_at : (names : List (List ℕ)) (k : ℕ)
    → drop (begin names k) (flat_map name_bytes names) ≡ flat_map name_bytes (drop k names)
rest_at [] zero = refl
rest_at [] (suc k) = refl
rest_at (x ∷ xs) zero = refl
rest_at (x ∷ xs) (suc k) =
    let first = sum_by-cons (λ (name : List ℕ). length name + 1) x (take k xs) in
    let long : length (x ++ (0 ∷ [])) ≡ length x + 1 = length-append x (0 ∷ []) in
    ap (λ n. drop n ((x ++ (0 ∷ [])) ++ flat_map name_bytes xs)) first
    ∙ sym (drop-drop (begin xs k) (length x + 1) ((x ++ (0 ∷ [])) ++ flat_map name_bytes xs))
    ∙ ap (drop (begin xs k)) (drop_at (x ++ (0 ∷ [])) (flat_map name_bytes xs) (length x + 1) long)
    ∙ rest_at xs k

-- that is, name k, a zero byte and more
pub name_at : (names : List (List ℕ)) (k : ℕ) → k < length names
    → drop (begin names k) (flat_map name_bytes names) ≡ get_or names k []
    ++ (0 ∷ flat_map name_bytes (drop (k + 1) names))
name_at names k below =
    rest_at names k ∙ ap (flat_map name_bytes) (drop_more names k [] below)
    ∙ append_assoc (get_or names k []) (0 ∷ []) (flat_map name_bytes (drop (k + 1) names))

-- name k and its zero byte lie in the table
pub name_inside : (names : List (List ℕ)) (k : ℕ) → k < length names
    → begin names k + length (get_or names k []) + 1 ≤ length (flat_map name_bytes names)
name_inside names k below =
    let all = flat_map name_bytes names in
    let more : List ℕ = flat_map name_bytes (drop (k + 1) names) in
    let cut = length-drop (begin names k) all in
    let here = ap length (name_at names k below) in
    let both = length-append (get_or names k []) (0 ∷ more) in
    omega (arith, cut, here, both)

-- what stands before the first zero byte of a name, a zero byte and more
until_zero : (name more : List ℕ) → All (λ byte. byte ≢ 0) name
    → before_first (λ byte. byte == 0) (name ++ (0 ∷ more)) ≡ name
until_zero name more none =
    let both = length-append name (0 ∷ more) in
    let before : (k : ℕ) → k < length name → (get_or (name ++ (0 ∷ more)) k 0 == 0) ≡ false =
    λ k below. ap (λ b. b == 0) (get_or_append_left name (0 ∷ more) 0 k below)
    ∙ ne_eqb (get_or name k 0) 0 (none k 0 below) in
    let there : length name < length (name ++ (0 ∷ more)) → (get_or (name ++ (0 ∷ more)) (length name) 0 == 0) ≡ true =
    λ inside. ap (λ b. b == 0) (get_or_at name 0 more 0 (length name) refl) in
    ap (λ n. take n (name ++ (0 ∷ more)))
    (position_or_len_is (λ byte. byte == 0) (name ++ (0 ∷ more)) (length name) 0 (omega (arith, both)) before there)
    ∙ take_at name (0 ∷ more) (length name) refl

-- the text at its place is name k
pub text_is : (names : List (List ℕ)) (k : ℕ) → k < length names → All (λ byte. byte ≢ 0) (get_or names k [])
    → text_at (flat_map name_bytes names) (begin names k) ≡ get_or names k []
unfolding text_at
text_is names k below none =
    ap (before_first (λ byte. byte == 0)) (name_at names k below)
    ∙ until_zero (get_or names k []) (flat_map name_bytes (drop (k + 1) names)) none

-- a byte of a part that stands in a file
byte_in_file : (n at k : ℕ) (f part : List ℕ) → part_at n at f ≡ part → k < n
    → slice_index f (at + k) ≡ slice_index part k
unfolding part_at
byte_in_file n at k f part here below =
    sym (get_or-drop at f k 0) ∙ sym (get_or-take n (drop at f) k 0 below) ∙ ap (λ p. slice_index p k) here

-- the zero byte behind name k
zero_at : (names : List (List ℕ)) (k : ℕ) → k < length names
    → slice_index (flat_map name_bytes names) (begin names k + length (get_or names k [])) ≡ 0
zero_at names k below =
    sym (get_or-drop (begin names k) (flat_map name_bytes names) (length (get_or names k [])) 0)
    ∙ ap (λ p. get_or p (length (get_or names k [])) 0) (name_at names k below)
    ∙ get_or_at (get_or names k []) 0 (flat_map name_bytes (drop (k + 1) names)) 0 (length (get_or names k [])) refl

-- in a file that holds the table, name k ends
pub name_ends : (names : List (List ℕ)) (k at : ℕ) (f : List ℕ) → k < length names
    → part_at (length (flat_map name_bytes names)) at f ≡ flat_map name_bytes names
    → Ends f at (length (flat_map name_bytes names)) (begin names k)
name_ends names k at f below here =
    let inside = name_inside names k below in
    let end : ℕ = begin names k + length (get_or names k []) in
    let within : end < length (flat_map name_bytes names) = omega (arith, inside) in (
      end,
      omega arith,
      within,
      byte_in_file (length (flat_map name_bytes names)) at end f (flat_map name_bytes names) here within
          ∙ zero_at names k below,
    )

-- in a file that holds the table, the name of the function of the run time stands with its zero byte
pub runtime_named : (names : List (List ℕ)) (k at : ℕ) (f : List ℕ) → k < length names
    → part_at (length (flat_map name_bytes names)) at f ≡ flat_map name_bytes names
    → get_or names k [] ≡ codes "__tls_get_addr"
    → (begin names k + 15 ≤ length (flat_map name_bytes names))
    × (part_at 15 (at + begin names k) f ≡ GET_ADDRESS_STRING)
unfolding part_at
runtime_named names k at f below here named =
    let inside = name_inside names k below in
    let long : length (get_or names k []) ≡ 14 = ap length named in
    let within : begin names k + 15 ≤ length (flat_map name_bytes names) = omega (arith, inside, long) in (
      within,
      sym (part_at-own 15 (begin names k) (length (flat_map name_bytes names)) at f within)
          ∙ ap (part_at 15 (begin names k)) here
          ∙ ap (take 15) (name_at names k below)
          ∙ ap (λ n. take 15 (n ++ (0 ∷ flat_map name_bytes (drop (k + 1) names)))) named,
    )
