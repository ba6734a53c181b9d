-- The file ends where the last part does.
use Rattle.std.proofs.Common.{◌≡◌, ◌+◌, ◌-◌, ◌*◌, ◌^◌, ◌<◌, ◌≤◌, ◌∙◌, ◌++◌, ℕ, zero, suc, ℤ, Bool, true, false, List}
use Rattle.std.proofs.Common.{[], ◌∷◌, Option, Some, None, FitsSigned, IsSome, length, refl, ap, arith, length-append}
use Rattle.std.specs.Prelude.{pos, negsuc, neg_ℤ, nat_lt, cond, ◌+ℤ◌, ◌-ℤ◌, ◌==◌, if◌then◌else◌, unwrap_or}
use Rattle.std.specs.Int.{w32}
use Rattle.std.specs.Int.Signed.{mag}
use Rattle.std.specs.List.{flat_map}
use Rattle.std.specs.Option.{IfSome}
use Rattle.std.proofs.lemmas.List.{length-replicate}
use Rattle.elf_records.specs.Fields.{bytes_of}
use Rattle.elf_records.specs.Laws.{length-bytes_of}
use Rattle.got_pairs.specs.declared.entry.Word.{Word}
use Rattle.got_pairs.specs.declared.need.Need.{Need}
use Rattle.got_pairs.specs.declared.need.Need.TheVariants.{ModulePair, SymbolPair, Descriptor, SymbolWord, RuntimeWord}
use Rattle.got_pairs.specs.declared.need.Target.TheVariants.{Here, Import}
use Rattle.got_pairs.specs.Entries.{entry_of, words}
use Rattle.got_pairs.specs.Needs.{size_of, start_of, total_size}
use Rattle.got_pairs.proofs.Served.{within}
use Rattle.link_faults.specs.declared.image_kind.ImageKind.{ImageKind}
use Rattle.link_faults.specs.declared.image_kind.ImageKind.TheVariants.{Exe}
use Rattle.link_faults.specs.ImageKinds.{base_of}
use Rattle.placed_sections.specs.Files.{offset_of, sections_file}
use Rattle.placed_sections.specs.Laws.{sections_end}
use Rattle.placed_sections.proofs.Told.{files_end}
use Rattle.tls_layout.specs.Places.{room, zero_data}
use Rattle.tls_layout.proofs.Together.{page_limit, page_up-above}
use Rattle.tls_relocs.specs.declared.fields.Field.TheVariants.{Empty}
use Rattle.tls_relocs.specs.Fields.{field_bytes}
use Rattle.tls_relocs.specs.Laid.{zeros}
use Rattle.tls_relocs.specs.ValueLaws.{signed_fits}
use Rattle.tls_relocs.specs.Values.{fits_signed, signed_field, word32}
use Rattle.link_needs.specs.Linking.{Linking, block_offset, layout}
use Rattle.link_needs.specs.Needs.{entries, entry_by, got_size, got_start, has_stub, need_address, stub_start}
use Rattle.link_core.specs.Bytes.{file, got_bytes, linked_section, need_bytes, stub_bytes, with_got, with_part}
use Rattle.link_core.specs.Bytes.{with_stub}
use Rattle.link_needs.specs.Given.{FitsTable, IsGiven}
use Rattle.link_core.proofs.LengthsKept.{are_laid}
use Rattle.link_core.proofs.LengthsPlaces.{base_before, got_end, got_end-before, got_start-after, last_end}
use Rattle.link_core.proofs.LoadsParts.{page_near}

-- ** the table

-- a word has eight bytes
words_length : (ws : List Word) → length (flat_map (λ (w : Word). bytes_of 8 w.number) ws) ≡ 8 * length ws
words_length [] = refl
words_length (w ∷ ws) =
    omega (
      arith,
      length-append (bytes_of 8 w.number) (flat_map (λ (v : Word). bytes_of 8 v.number) ws),
      length-bytes_of 8 w.number,
      words_length ws,
    )

-- an entry has as many words as it has room for
word_count : (kind : ImageKind) (block : ℕ) (need : Need) → 8 * length (words (entry_of kind block need)) ≡ size_of need
word_count Exe block ModulePair = refl
word_count kind block ModulePair = refl
word_count kind block (SymbolPair (Here s o)) = refl
word_count kind block (SymbolPair (Import n)) = refl
word_count kind block (Descriptor (Here s o)) = refl
word_count kind block (Descriptor (Import n)) = refl
word_count kind block (SymbolWord (Here s o)) = refl
word_count kind block (SymbolWord (Import n)) = refl
word_count kind block need = refl

pub need_length : (l : Linking) (need : Need) → length (need_bytes l need) ≡ size_of need
need_length l need =
    words_length (words (entry_of l.kind (block_offset l) need)) ∙ word_count l.kind (block_offset l) need

needs_length : (l : Linking) (needs : List Need) → length (flat_map (need_bytes l) needs) ≡ total_size needs
needs_length l [] = refl
needs_length l (need ∷ more) =
    omega (
      arith,
      length-append (need_bytes l need) (flat_map (need_bytes l) more),
      need_length l need,
      needs_length l more,
    )

pub got_length : (l : Linking) → length (got_bytes l) ≡ got_size l
unfolding got_bytes
got_length l = needs_length l (entries l)

-- ** the stub

-- how large a sum is
pub difference_mag : (b : Bool) (x y : ℕ) → mag (cond b (negsuc (y - suc x)) (pos (x - y))) ≤ x + y
difference_mag true x y = omega arith
difference_mag false x y = omega arith

pub sum_mag : (x y : ℤ) → mag (x +ℤ y) ≤ mag x + mag y + 2
sum_mag (pos a) (pos b) = omega arith
sum_mag (pos a) (negsuc b) =
    let h : mag (pos a +ℤ negsuc b) ≤ a + suc b = difference_mag (nat_lt a (suc b)) a (suc b) in omega (arith, h)
sum_mag (negsuc a) (pos b) =
    let h : mag (negsuc a +ℤ pos b) ≤ b + suc a = difference_mag (nat_lt b (suc a)) b (suc a) in omega (arith, h)
sum_mag (negsuc a) (negsuc b) = omega arith

pub neg_mag : (b : ℕ) → mag (neg_ℤ (pos b)) ≤ b
neg_mag zero = omega arith
neg_mag (suc b) = omega arith

-- a small distance backwards fits its field
pub back_fits : (g p : ℕ) → g ≤ p → p < 2 ^ 29 → FitsSigned w32 ((pos g +ℤ negsuc 3) -ℤ pos p)
back_fits g p below small =
    record { sfits = omega (arith, sum_mag (pos g +ℤ negsuc 3) (neg_ℤ (pos p)), sum_mag (pos g) (negsuc 3), neg_mag p) }

jump_length : (g p : ℕ) → g ≤ p → p < 2 ^ 29
    → length (field_bytes (unwrap_or (signed_field ((pos g +ℤ negsuc 3) -ℤ pos p)) Empty)) ≡ 4
jump_length g p below small =
    let z = (pos g +ℤ negsuc 3) -ℤ pos p in
    of_fits (fits_signed z) z ((signed_fits z).1 (back_fits g p below small))
  where
    of_fits : (t : Bool) (z : ℤ) → IsSome (word32 t z) → length (field_bytes (unwrap_or (word32 t z) Empty)) ≡ 4
    of_fits true z some = length-bytes_of 4 _
    of_fits false z some = absurd (cc)

-- the table is not far from the stub
room_small : (l : Linking) → FitsTable l → got_start l ≤ base_of l.kind + 2 ^ 24
unfolding room
room_small l limits =
    let small = limits.lawful.small_span in
    page_limit l.kind (zero_data l.kind (layout l).sections).end (omega arith)

base_small : (kind : ImageKind) → base_of kind ≤ 2 ^ 23
base_small Exe = omega arith
base_small kind = omega arith

pub stub_small : (l : Linking) → IsGiven l → FitsTable l → stub_start l + 2 < 2 ^ 29
stub_small l given limits =
    let near = page_near (got_start l + got_size l) in
    omega (arith, room_small l limits, base_small l.kind, near, limits.got)

-- the word that it jumps through lies before it
pub word_before : (l : Linking) → need_address l (Some RuntimeWord) ≤ stub_start l
word_before l =
    let inside = within (entries l) RuntimeWord (start_of (entries l) RuntimeWord) refl in
    let page = page_up-above (got_start l + got_size l) in
    of_start (start_of (entries l) RuntimeWord) inside page
  where
    of_start : (at : Option ℕ) → IfSome at (λ s. s + 8 ≤ total_size (entries l))
        → got_start l + got_size l ≤ stub_start l → entry_by l at ≤ stub_start l
    of_start None inside page = omega arith
    of_start (Some at) inside page = omega arith

pub stub_length : (l : Linking) → IsGiven l → FitsTable l → length (stub_bytes l) ≡ 6
unfolding stub_bytes
stub_length l given limits =
    let before = word_before l in
    let small = stub_small l given limits in
    let field = jump_length (need_address l (Some RuntimeWord)) (stub_start l + 2) (omega arith) small in
    omega arith

-- ** the whole

-- a part at an address behind a file ends it
part_length : (l : Linking) (end address : ℕ) (bytes file : List ℕ) → length file ≡ offset_of (layout l) end
    → end ≤ address → base_of l.kind ≤ address
    → length (with_part l address bytes file) ≡ offset_of (layout l) (address + length bytes)
part_length l end address bytes file is behind above =
    omega (
      arith,
      length-append file (zeros (offset_of (layout l) address - length file) ++ bytes),
      length-append (zeros (offset_of (layout l) address - length file)) bytes,
      length-replicate {A = ℕ} (offset_of (layout l) address - length file) 0,
    )

-- with the table
pub with_got_length : (l : Linking) (file : List ℕ) → length file ≡ offset_of (layout l) (sections_end (layout l))
    → length (with_got l file) ≡ offset_of (layout l) (got_end l)
with_got_length l file is = of_test (got_size l == 0)
  where
    of_test : (t : Bool) → length (if t then file else with_part l (got_start l) (got_bytes l) file)
        ≡ offset_of (layout l) (if t then sections_end (layout l) else got_start l + got_size l)
    of_test true = is
    of_test false =
        part_length l (sections_end (layout l)) (got_start l) (got_bytes l) file is (got_start-after l) (base_before l)
        ∙ ap (λ n. offset_of (layout l) (got_start l + n)) (got_length l)

-- with the stub
with_stub_length : (l : Linking) (file : List ℕ) → IsGiven l → FitsTable l
    → length file ≡ offset_of (layout l) (got_end l) → length (with_stub l file) ≡ offset_of (layout l) (last_end l)
with_stub_length l file given limits is = of_test (has_stub l)
  where
    above : base_of l.kind ≤ stub_start l
    above = omega (arith, base_before l, page_up-above (got_start l + got_size l))

    of_test : (t : Bool) → length (if t then with_part l (stub_start l) (stub_bytes l) file else file)
        ≡ offset_of (layout l) (if t then stub_start l + 6 else got_end l)
    of_test true =
        part_length l (got_end l) (stub_start l) (stub_bytes l) file is (got_end-before l) above
        ∙ ap (λ n. offset_of (layout l) (stub_start l + n)) (stub_length l given limits)
    of_test false = is

pub file_length : (l : Linking) → IsGiven l → FitsTable l → length (file l) ≡ offset_of (layout l) (last_end l)
unfolding file
file_length l given limits =
    let sections = sections_file (layout l) (linked_section l) l.objects in
    with_stub_length l (with_got l sections) given limits
    (with_got_length l sections (files_end l.kind (linked_section l) l.objects (are_laid l given limits)))
