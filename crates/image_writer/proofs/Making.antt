-- What a draft whose contents can be linked keeps, and the file that it becomes.
use Rattle.std.proofs.Common.{ℕ, suc, ◌+◌, ◌-◌, ◌*◌, ◌≤◌, ◌≡◌, true, false, All, List, [], ◌∷◌, ◌++◌, length, map, drop}
use Rattle.std.proofs.Common.{replicate, refl, ap, ◌∙◌, arith, length-append}
use Rattle.std.specs.List.{flat_map}
use Rattle.std.proofs.lemmas.List.{length-replicate, length-take-le, length-drop}
use Rattle.elf_records.specs.Fields.{bytes_of, part_at}
use Rattle.elf_records.specs.Records.{dynamic_bytes, symbol_bytes, rela_bytes}
use Rattle.image_rules.specs.declared.places.FileKind.{FileKind}
use Rattle.image_writer.specs.declared.draft.Draft.{Draft}
use Rattle.image_writer.specs.declared.outline.PartPlace.{PartPlace}
use Rattle.image_writer.specs.Contents.{Contents, contents_of, part_in, parts_end, tables_address}
use Rattle.image_writer.specs.Outlined.{place_of}
use Rattle.image_writer.specs.Page.{file_offset}
use Rattle.image_writer.specs.Tables as tables
use Rattle.image_writer.specs.Told.{told, places_end, layout_of, tables_at, tables_size, array_at, place_entries}
use Rattle.image_writer.specs.Told.{leading_entries}
use Rattle.image_writer.proofs.Layouts as layouts

-- a part inside a file has the size that its place says
pub part_in-size : (kind : FileKind) (file : List ℕ) (p : PartPlace) → file_offset kind p.address + p.size ≤ length file
    → length (part_in kind file p).bytes ≡ p.size
unfolding part_at
part_in-size kind file p inside =
    let rest = length-drop (file_offset kind p.address) file in
    length-take-le p.size (drop (file_offset kind p.address) file) (omega arith)

-- the places of such parts
pub places-in : (kind : FileKind) (file : List ℕ) (places : List PartPlace)
    → All (λ (p : PartPlace). file_offset kind p.address + p.size ≤ length file) places
    → map place_of (map (part_in kind file) places) ≡ places
places-in kind file [] inside = refl
places-in kind file (p ∷ more) inside =
    let here : place_of (part_in kind file p) ≡ p =
    ap (λ n. record { class = p.class; address = p.address; size = n })
    (part_in-size kind file p (inside 0 p (omega arith))) in
    let rest = places-in kind file more (λ k d below. inside (suc k) d (omega arith)) in
    ap (λ q. q ∷ map place_of (map (part_in kind file) more)) here ∙ ap (λ qs. p ∷ qs) rest

-- where they end
pub parts_end-in : (kind : FileKind) (file : List ℕ) (places : List PartPlace)
    → All (λ (p : PartPlace). file_offset kind p.address + p.size ≤ length file) places
    → parts_end kind (map (part_in kind file) places) ≡ places_end kind places
parts_end-in kind file [] inside = refl
parts_end-in kind file (p ∷ []) inside = ap (λ n. p.address + n) (part_in-size kind file p (inside 0 p (omega arith)))
parts_end-in kind file (p ∷ (q ∷ more)) inside =
    parts_end-in kind file (q ∷ more) (λ k d below. inside (suc k) d (omega arith))

-- the array of contents is that at their tables' address
pub array-is : (c : Contents) → tables.array c ≡ array_at (tables_address c) c
unfolding tables.array layout_of
array-is c =
    elim (tables.has_relocations c) as (λ b. (place_entries (layout_of c) (tables_address c))
    ++ (tables.relocation_entries c b ++ (tables.flags_entries c.is_flagged c.kind ++ (tables.array_entry 0 0 ∷ [])))
    ≡ place_entries (layout_of c) (tables_address c)
    ++ (leading_entries b (tables_address c + tables.relocations_start c) (length c.relocations)
    ++ (tables.flags_entries c.is_flagged c.kind ++ (tables.array_entry 0 0 ∷ []))))
    [ true ↦ refl | false ↦ refl ]

pub tables-is : (c : Contents) → tables.tables c ≡ tables_at (tables_address c) c
unfolding tables.tables tables_at
tables-is c = ap (λ es. flat_map dynamic_bytes es ++ (flat_map (bytes_of 4) (tables.hash_words (tables.symbol_total c))
    ++ (replicate (tables.symbols_start c - (tables.array_size c + tables.hash_size c)) 0
    ++ (flat_map symbol_bytes (tables.symbol_rows c)
    ++ (flat_map (λ r. rela_bytes (tables.relocation_entry r)) c.relocations ++ tables.strings c))))) (array-is c)

-- the bytes of parts change no table
pub tables-told : (d : Draft) (file : List ℕ) (address : ℕ)
    → tables_at address (contents_of d file) ≡ tables_at address (told d)
unfolding tables_at layout_of tables.strings tables.symbol_rows
tables-told d file address = refl

-- six lists behind each other
pub six_sizes : (A B C D E F : List ℕ) (a b s r e : ℕ) → length A ≡ a → length B ≡ b → length C ≡ s - (a + b)
    → length D ≡ r → length E ≡ e → a + b ≤ s
    → length (A ++ (B ++ (C ++ (D ++ (E ++ F))))) ≡ s + r + e + length F
six_sizes A B C D E F a b s r e a-is b-is c-is d-is e-is below =
    let l1 = length-append A (B ++ (C ++ (D ++ (E ++ F)))) in
    let l2 = length-append B (C ++ (D ++ (E ++ F))) in
    let l3 = length-append C (D ++ (E ++ F)) in
    let l4 = length-append D (E ++ F) in
    let l5 = length-append E F in
    omega arith

-- how many bytes the tables have
pub length-tables_at : (address : ℕ) (c : Contents) → length (tables_at address c) ≡ tables_size c
unfolding tables_at
length-tables_at address c =
    let A = flat_map dynamic_bytes (array_at address c) in
    let B = flat_map (bytes_of 4) (tables.hash_words (tables.symbol_total c)) in
    let gap = tables.symbols_start c - (tables.array_size c + tables.hash_size c) in
    let C : List ℕ = replicate gap 0 in
    let D = flat_map symbol_bytes (tables.symbol_rows c) in
    let E = flat_map (λ r. rela_bytes (tables.relocation_entry r)) c.relocations in
    let F = tables.strings c in
    let a : length A ≡ tables.array_size c = layouts.length-array_at address c in
    let b : length B ≡ tables.hash_size c = layouts.length-hash (tables.symbol_total c) in
    let z : length C ≡ gap = length-replicate gap 0 in
    let r : length D ≡ 24 * tables.symbol_total c = layouts.length-rows c in
    let e : length E ≡ 24 * length c.relocations = layouts.length-relocations c.relocations in
    let behind = layouts.next_multiple_of-le (tables.array_size c + tables.hash_size c) in
    six_sizes A B C D E F (tables.array_size c) (tables.hash_size c) (tables.symbols_start c)
    (24 * tables.symbol_total c)
    (24 * length c.relocations) a b z r e behind
