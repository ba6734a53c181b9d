-- The table of a class holds what the meaning does, wherever the image lies.
use Rattle.std.proofs.Common.{◌≡◌, ◌<◌, ◌≤◌, ◌+◌, ◌-◌, ◌^◌, ◌%◌, ◌∙◌, ℕ, pos, zero, suc, Bool, true, false, List, []}
use Rattle.std.proofs.Common.{◌∷◌, Option, None, Some, length, map, refl, sym, ap, subst, arith}
use Rattle.std.specs.Prelude.{◌+ℤ◌, ◌==◌, slice_get, slice_index_or, unwrap_or}
use Rattle.std.specs.List.{All, find, range_with_len}
use Rattle.std.proofs.lemmas.Bool.{and_from, le-leb, lt-leb, lt-ltb, ne_eqb}
use Rattle.std.proofs.lemmas.Option.{slice_get-get_or}
use Rattle.std.proofs.lemmas.List.Elements.{All-get_or, All-contains}
use Rattle.std.proofs.lemmas.List.FromFn.{get_or-map-range_with_len, length-map-range_with_len}
use Rattle.elf_object.specs.declared.relocation.Relocation.{Relocation}
use Rattle.elf_object.specs.Faults.{IsObject}
use Rattle.elf_object.specs.Lawful.{IsLawful}
use Rattle.elf_object.specs.LawsOfRelocations.{lawful}
use Rattle.elf_object.specs.Lent.{relocations, section_class, section_size}
use Rattle.elf_object.specs.Object.{section_count}
use Rattle.elf_records.specs.declared.relocation.RelocationKind.{RelocationKind}
use Rattle.elf_records.specs.declared.relocation.RelocationKind.TheVariants.{Absolute64}
use Rattle.elf_records.specs.Fields.{bytes_of, number_at}
use Rattle.elf_records.specs.Relocations.{field_width}
use Rattle.link_faults.specs.declared.binding.Binding.{Binding}
use Rattle.link_faults.specs.declared.binding.Binding.TheVariants.{Here}
use Rattle.link_faults.specs.declared.symbol_ref.SymbolRef.{SymbolRef}
use Rattle.link_needs.specs.Linking.{Linking, address, binding, layout, object}
use Rattle.object_faults.specs.declared.class.SectionClass.{SectionClass}
use Rattle.sequence_match.proofs.Sections.{fields_apart}
use Rattle.tls_layout.proofs.LawsOfPlaces.{from_start, to_end}
use Rattle.tls_layout.specs.Places.{extent_for}
use Rattle.tls_relocs.specs.declared.fields.Field.{Field}
use Rattle.tls_relocs.specs.declared.fields.Field.TheVariants.{Empty, Word32, Word64}
use Rattle.tls_relocs.specs.Fields.{field_bytes}
use Rattle.tls_relocs.specs.Values.{modulo}
use Rattle.whole_meaning.specs.Bytes.{byte_by, byte_of, class_bytes, covers, has_value, value_of}
use Rattle.whole_meaning.specs.Spots.{Spot, begin_of, spot_in, stands_at}
use Rattle.memory_image.specs.declared.fields.Table.{Table}
use Rattle.memory_image.specs.declared.fields.Table.TheVariants.{Bytes, Marks}
use Rattle.memory_image.specs.Filling.{byte_by_field, cell_in, is_moving, marks_of, own_field}
use Rattle.memory_image.specs.Laying.{HasRange, cell_of, cells_from, class_cells}
use Rattle.memory_image.specs.Tables.{ClassTable, IsClass, Keeps, byte_at, byte_for, byte_of_place, bytes_at}
use Rattle.memory_image.specs.Tables.{moved_byte}
use Rattle.memory_image.proofs.Filled.{hits, hits_parts, zeros_at}
use Rattle.memory_image.proofs.Founds.{found_again, found_hits, found_in, spot_is}
use Rattle.memory_image.proofs.Laid.{all_inside, extent_rises, nth}
use Rattle.memory_image.proofs.Placing.{Stands, placed_at, section_stands, stands_so}
use Rattle.memory_image.proofs.RangeLists.{map_same}
use Rattle.memory_image.proofs.Words.{modulo_small, moved_sum, number_is}

-- ** marks

still_mark : (kind : RelocationKind) (bound : Option Binding) (j : ℕ) → is_moving kind bound ≡ false
    → slice_index_or (field_bytes (marks_of kind bound)) j 0 ≡ 0
unfolding bytes_of
still_mark Absolute64 (Some (Here found)) j h = absurd (impossible h)
  where
    impossible : true ≡ false → ⊥
    impossible e = cc
still_mark Absolute64 bound j h = zeros_at 8 j
still_mark kind bound j h = zeros_at 4 j

eight_marks : (j : ℕ) → j < 8 → slice_index_or (bytes_of 8 0x0807060504030201) j 0 ≡ j + 1
unfolding bytes_of
eight_marks zero h = refl
eight_marks (suc zero) h = refl
eight_marks (suc (suc zero)) h = refl
eight_marks (suc (suc (suc zero))) h = refl
eight_marks (suc (suc (suc (suc zero)))) h = refl
eight_marks (suc (suc (suc (suc (suc zero))))) h = refl
eight_marks (suc (suc (suc (suc (suc (suc zero)))))) h = refl
eight_marks (suc (suc (suc (suc (suc (suc (suc zero))))))) h = refl
eight_marks (suc (suc (suc (suc (suc (suc (suc (suc j)))))))) h = absurd (omega arith)

-- what moves is an address
record Moves (kind : RelocationKind) (bound : Option Binding) : Type 0 where
  found : SymbolRef
  kind_is : kind ≡ Absolute64
  bound_is : bound ≡ Some (Here found)

moves_is : (kind : RelocationKind) (bound : Option Binding) → is_moving kind bound ≡ true → Moves kind bound
moves_is Absolute64 (Some (Here found)) h = record { found = found; kind_is = refl; bound_is = refl }
moves_is kind bound h = absurd (impossible h)
  where
    impossible : false ≡ true → ⊥
    impossible e = cc

moving_mark : (kind : RelocationKind) (bound : Option Binding) (j : ℕ) → Moves kind bound → j < 8
    → slice_index_or (field_bytes (marks_of kind bound)) j 0 ≡ j + 1
moving_mark kind bound j x below = rw (x.kind_is, x.bound_is) (eight_marks j below)

-- a byte of a marked address
marked_byte : (bytes : List ℕ) (bias i j : ℕ) → byte_for (j + 1) bytes bias i ≡ moved_byte bytes bias (i - j) j
marked_byte bytes bias i j =
    let some : ((j + 1) == 0) ≡ false = ne_eqb (j + 1) 0 (λ e. absurd (omega arith)) in
    let less : j + 1 - 1 ≡ j = omega arith in
    rw (some, less) refl

-- a field without a value holds zeros
empty_same : (v : Option Field) (j : ℕ)
    → slice_index_or (field_bytes (unwrap_or v Empty)) j 0 ≡ slice_index_or (field_bytes (unwrap_or v (Word32 0))) j 0
unfolding bytes_of
empty_same None j = sym (zeros_at 4 j)
empty_same (Some f) j = refl

module _ (l : Linking) (o s : ℕ) (r : Relocation) (x : Moves r.kind (binding l o r)) where
  abbrev word : ℕ → ℕ
  word bias = modulo (2 ^ 64) (pos (address l x.found + bias) +ℤ r.addend)

  own_word : own_field l o s r ≡ Word64 (modulo (2 ^ 64) (pos (address l x.found) +ℤ r.addend))
  unfolding own_field
  own_word = rw (x.bound_is, x.kind_is) refl

  value_word : (bias : ℕ) → value_of l bias o s r ≡ Some (Word64 (word bias))
  unfolding value_of
  value_word bias = rw (x.bound_is, x.kind_is) refl

-- ** by place

none_past : (xs : List ℕ) (i : ℕ) → length xs ≤ i → slice_get xs i ≡ None
none_past [] i h = refl
none_past (x ∷ xs) zero h = absurd (omega arith)
none_past (x ∷ xs) (suc i) h = none_past xs i (omega arith)

pub bytes_length : (c : ClassTable) (bias : ℕ) → length (bytes_at c bias) ≡ length c.bytes
unfolding bytes_at
bytes_length c bias = length-map-range_with_len (byte_at c bias) 0 (length c.bytes)

-- in front of the class, behind it and in it
pub below_class : (c : ClassTable) (bias place : ℕ) → place < c.start + bias → None ≡ byte_of_place c bias place
unfolding byte_of_place
below_class c bias place h = rw (lt-leb (c.start + bias) place h) refl

pub past_class : (c : ClassTable) (bias place i : ℕ) → place ≡ c.start + bias + i → length c.bytes ≤ i
    → None ≡ byte_of_place c bias place
unfolding byte_of_place
past_class c bias place i e h =
    let k : place - (c.start + bias) ≡ i = omega arith in
    let len = bytes_length c bias in
    rw (le-leb (c.start + bias) place (omega arith), k) (sym (none_past (bytes_at c bias) i (omega arith)))

pub in_class : (c : ClassTable) (bias place i v : ℕ) → place ≡ c.start + bias + i → i < length c.bytes
    → v ≡ byte_at c bias i → Some v ≡ byte_of_place c bias place
unfolding byte_of_place bytes_at
in_class c bias place i v e h value =
    let k : place - (c.start + bias) ≡ i = omega arith in
    let len : length (map (byte_at c bias) (range_with_len 0 (length c.bytes))) ≡ length c.bytes =
    length-map-range_with_len (byte_at c bias) 0 (length c.bytes) in
    rw (le-leb (c.start + bias) place (omega arith), k)
    (ap Some (value ∙ sym (get_or-map-range_with_len (byte_at c bias) 0 (length c.bytes) i i 0 h (omega arith)))
    ∙ sym (slice_get-get_or (map (byte_at c bias) (range_with_len 0 (length c.bytes))) i 0 (omega arith)))

-- ** the table

module _ (l : Linking) (class : SectionClass) (range : HasRange class) (objects_are : All IsObject l.objects) where
  abbrev first : ℕ
  first = (extent_for class (layout l)).start

  abbrev size : ℕ
  size = (extent_for class (layout l)).end - first

  abbrev all : Table → List ℕ
  all table = class_cells (cell_in table l) l class 0

  abbrev cell : Table → ℕ → ℕ
  cell table address = cell_of (cell_in table l) 0 (spot_in l class address)

  all_length : (table : Table) → length (all table) ≡ size
  unfolding cells_from
  all_length table = length-map-range_with_len
      (λ address. cell_of (cell_in table l) 0 (spot_in l class address)) first size

  all_at : (table : Table) (i y : ℕ) → i < size → y ≡ first + i → slice_index_or (all table) i 0 ≡ cell table y
  unfolding cells_from
  all_at table i y below at =
      get_or-map-range_with_len
      (λ address. cell_of (cell_in table l) 0 (spot_in l class address)) first size i y 0 below (sym at)

  -- a section of the class
  pub record Own (o s : ℕ) : Type 0 where
    pub there : o < length l.objects
    pub within : s < section_count (object l o)
    pub class_is : section_class (object l o) s ≡ Some class

  own_cell : (table : Table) (o s y : ℕ) → Own o s → begin_of (layout l) o s ≤ y
      → y < begin_of (layout l) o s + section_size (object l o) s
      → cell table y ≡ cell_in table l o s (y - begin_of (layout l) o s)
  unfolding spot_in
  own_cell table o s y own from to =
      ap (cell_of (cell_in table l) 0)
      (section_stands l.kind l.objects class range o s y own.there own.within own.class_is from to)

  record Inside (o s : ℕ) : Type 0 where
    low : first ≤ begin_of (layout l) o s
    high : begin_of (layout l) o s + section_size (object l o) s ≤ first + size

  inside : (o s : ℕ) → Own o s → Inside o s
  inside o s own =
      let x = placed_at l.kind l.objects class range o s own.there own.within own.class_is in
      let low = from_start class first (layout l).sections (nth l class o s) in
      let high = to_end class first (layout l).sections (nth l class o s) x.is in
      let last = all_inside l class range in
      let up = extent_rises class (layout l) in
      record { low = omega (arith, x.begin_is); high = omega (arith, x.begin_is, x.size_is) }

  -- the word of an address that moves stands in the table
  module _ (o s w x y : ℕ) (r : Relocation) (own : Own o s) (at : y ≡ first + x) (from : begin_of (layout l) o s ≤ y)
      (to : y < begin_of (layout l) o s + section_size (object l o) s) (w_is : w ≡ y - begin_of (layout l) o s)
      (e : find (hits w) (relocations (object l o) s) ≡ Some r) (moves : Moves r.kind (binding l o r)) where
    is_object : IsObject (object l o)
    is_object = All-get_or (λ (b : List ℕ). IsObject b) l.objects o [] own.there objects_are

    offset_low : r.offset ≤ w
    offset_low = (hits_parts w r (found_hits w (relocations (object l o) s) r e)).1.0

    width_is : field_width r.kind ≡ 8
    width_is = rw moves.kind_is refl

    offset_high : w < r.offset + 8
    offset_high = let h = (hits_parts w r (found_hits w (relocations (object l o) s) r e)).1.1 in
        omega (arith, width_is)

    fits : r.offset + 8 ≤ section_size (object l o) s
    fits =
        let has = found_in w (relocations (object l o) s) r e in
        let x = All-contains (IsLawful (object l o) s) (relocations (object l o) s) r
        (lawful (object l o) is_object s) has in
        omega (arith, x.inside, width_is)

    hits_next : (m : ℕ) → m < 8 → hits (r.offset + m) r ≡ true
    hits_next m below =
        and_from (has_value r.kind) (covers (r.offset + m) r)
        (hits_parts w r (found_hits w (relocations (object l o) s) r e)).0
        (and_from _ _ (le-leb r.offset (r.offset + m) (omega arith))
        (lt-ltb (r.offset + m) (r.offset + field_width r.kind) (omega (arith, width_is))))

    cell_next : (m : ℕ) → m < 8
        → cell_in Bytes l o s (r.offset + m) ≡ slice_index_or (field_bytes (own_field l o s r)) m 0
    unfolding cell_in
    cell_next m below =
        let again = found_again w (r.offset + m) (relocations (object l o) s) r
        (fields_apart (object l o) is_object s) e (hits_next m below) in
        let k : r.offset + m - r.offset ≡ m = omega arith in
        ap (byte_by_field Bytes l o s (r.offset + m)) again
        ∙ ap (λ j. slice_index_or (field_bytes (own_field l o s r)) j 0) k

    byte_next : (m : ℕ) → m < 8
        → slice_index_or (all Bytes) (x - (w - r.offset) + m) 0 ≡ slice_index_or (field_bytes (own_field l o s r)) m 0
    byte_next m below =
        let lies = inside o s own in
        let y' = begin_of (layout l) o s + (r.offset + m) in
        let index : y' ≡ first + (x - (w - r.offset) + m) = omega (arith, lies.low, offset_low) in
        let short : x - (w - r.offset) + m < size = omega (arith, lies.low, lies.high, offset_low, fits) in
        let k : y' - begin_of (layout l) o s ≡ r.offset + m = omega arith in
        all_at Bytes (x - (w - r.offset) + m) y' short index
        ∙ own_cell Bytes o s y' own (omega arith) (omega (arith, fits))
        ∙ ap (cell_in Bytes l o s) k ∙ cell_next m below

    word_is : number_at 8 (x - (w - r.offset)) (all Bytes) ≡ modulo (2 ^ 64) (pos (address l moves.found) +ℤ r.addend)
    word_is =
        let value = own_word l o s r moves in
        number_is (all Bytes) (x - (w - r.offset)) _ (modulo_small (pos (address l moves.found) +ℤ r.addend))
        (λ m below.
        byte_next m below ∙ ap (λ f. slice_index_or (field_bytes f) m 0) value)

    moving_byte : (bias : ℕ) → slice_index_or (all Marks) x 0 ≡ byte_by_field Marks l o s w (Some r)
        → byte_for (slice_index_or (all Marks) x 0) (all Bytes) bias x ≡ byte_by l bias o s w (Some r)
    moving_byte bias mark =
        let j = w - r.offset in
        let small : j < 8 = omega (arith, offset_high, offset_low) in
        let marked : slice_index_or (all Marks) x 0 ≡ j + 1 = mark ∙ moving_mark r.kind (binding l o r) j moves small in
        let sum = moved_sum (address l moves.found) bias r.addend in
        ap (λ m. byte_for m (all Bytes) bias x) marked
        ∙ marked_byte (all Bytes) bias x j
        ∙ ap (λ n. slice_index_or (bytes_of 8 ((n + bias) % 2 ^ 64)) j 0) word_is
        ∙ ap (λ n. slice_index_or (bytes_of 8 n) j 0) sum
        ∙ sym (ap (λ v. slice_index_or (field_bytes (unwrap_or v Empty)) j 0) (value_word l o s r moves bias))

  -- a byte of a section
  section_byte : (bias : ℕ) → Keeps l bias → (o s w x y : ℕ) → Own o s → y ≡ first + x → begin_of (layout l) o s ≤ y
      → y < begin_of (layout l) o s + section_size (object l o) s → w ≡ y - begin_of (layout l) o s
      → slice_index_or (all Marks) x 0 ≡ cell_in Marks l o s w → slice_index_or (all Bytes) x 0 ≡ cell_in Bytes l o s w
      → byte_for (slice_index_or (all Marks) x 0) (all Bytes) bias x
      ≡ byte_by l bias o s w (find (hits w) (relocations (object l o) s))
  unfolding cell_in
  section_byte bias keeps o s w x y own at from to w_is mark byte =
      by_find (find (hits w) (relocations (object l o) s)) refl mark byte
    where
      by_find : (found : Option Relocation) → find (hits w) (relocations (object l o) s) ≡ found
          → slice_index_or (all Marks) x 0 ≡ byte_by_field Marks l o s w found
          → slice_index_or (all Bytes) x 0 ≡ byte_by_field Bytes l o s w found
          → byte_for (slice_index_or (all Marks) x 0) (all Bytes) bias x ≡ byte_by l bias o s w found
      by_find None e mark byte = ap (λ m. byte_for m (all Bytes) bias x) mark ∙ byte
      by_find (Some r) e mark byte = by_moving (is_moving r.kind (binding l o r)) refl
        where
          by_moving : (t : Bool) → is_moving r.kind (binding l o r) ≡ t
              → byte_for (slice_index_or (all Marks) x 0) (all Bytes) bias x ≡ byte_by l bias o s w (Some r)
          by_moving true h = moving_byte o s w x y r own at from to w_is e (moves_is r.kind (binding l o r) h) bias mark
          by_moving false h =
              let rs = relocations (object l o) s in
              let has = (hits_parts w r (found_hits w rs r e)).0 in
              let kept = keeps o s r own.there (found_in w rs r e) has h in
              let still : slice_index_or (all Marks) x 0 ≡ 0 = mark
              ∙ still_mark r.kind (binding l o r) (w - r.offset) h in
              ap (λ m. byte_for m (all Bytes) bias x) still ∙ byte
              ∙ sym (empty_same (value_of l bias o s r) (w - r.offset)
              ∙ ap (λ f. slice_index_or (field_bytes f) (w - r.offset) 0) kept)

  record Found (y : ℕ) (spot : Spot) : Type 0 where
    own : Own spot.object spot.section
    from : begin_of (layout l) spot.object spot.section ≤ y
    to : y < begin_of (layout l) spot.object spot.section + section_size (object l spot.object) spot.section
    within_is : spot.within ≡ y - begin_of (layout l) spot.object spot.section

  found_spot : (y : ℕ) (spot : Spot) → spot_in l class y ≡ Some spot → Found y spot
  unfolding spot_in
  found_spot y spot e =
      let f = spot_is (layout l) class y 0 l.objects spot e in
      let same : f.at ≡ spot.object = omega (arith, f.number) in
      let here : Stands l.kind l.objects class spot.object spot.section y =
      stands_so l.kind l.objects class spot.object spot.section y
      (subst (λ (i : ℕ). stands_at (layout l) class spot.object (slice_index_or l.objects i []) y spot.section
      ≡ true) same f.stands) in
      record {
        own = record {
          there = omega (arith, f.number, f.there);
          within = subst (λ (i : ℕ). spot.section < section_count (slice_index_or l.objects i [])) same f.within;
          class_is = here.of_class;
        };
        from = here.from;
        to = here.to;
        within_is = ap (λ (t : Spot). t.within) f.is;
      }

  byte_is : (bias : ℕ) → Keeps l bias → (x y : ℕ) → x < size → y ≡ first + x
      → byte_for (slice_index_or (all Marks) x 0) (all Bytes) bias x ≡ byte_of l bias (spot_in l class y)
  byte_is bias keeps x y below at = by_spot (spot_in l class y) refl
    where
      by_spot : (found : Option Spot) → spot_in l class y ≡ found
          → byte_for (slice_index_or (all Marks) x 0) (all Bytes) bias x ≡ byte_of l bias (spot_in l class y)
      by_spot None e =
          let mark : slice_index_or (all Marks) x 0 ≡ 0 = all_at Marks x y below at
          ∙ ap (cell_of (cell_in Marks l) 0) e in
          let byte : slice_index_or (all Bytes) x 0 ≡ 0 = all_at Bytes x y below at
          ∙ ap (cell_of (cell_in Bytes l) 0) e in
          ap (λ m. byte_for m (all Bytes) bias x) mark ∙ byte ∙ sym (ap (byte_of l bias) e)
      by_spot (Some spot) e =
          let f = found_spot y spot e in
          section_byte bias keeps spot.object spot.section spot.within x y f.own at f.from f.to f.within_is
          (all_at Marks x y below at ∙ ap (cell_of (cell_in Marks l) 0) e)
          (all_at Bytes x y below at ∙ ap (cell_of (cell_in Bytes l) 0) e)
          ∙ sym (ap (byte_of l bias) e)

  pub class_is : (c : ClassTable) → c.start ≡ first → c.bytes ≡ all Bytes → c.marks ≡ all Marks → IsClass l class c
  unfolding bytes_at byte_at class_bytes
  class_is c start bytes marks = record {
    start_is = start;
    bytes_are = λ bias keeps.
        let long : length c.bytes ≡ size = ap length bytes ∙ all_length Bytes in
        ap (λ n. map (λ i. byte_for (slice_index_or c.marks i 0) c.bytes bias i) (range_with_len 0 n)) long
        ∙ map_same (λ i. byte_for (slice_index_or c.marks i 0) c.bytes bias i)
        (λ address. byte_of l bias (spot_in l class address)) 0 first size
        (λ k x y below at to.
        let here : k ≡ x = omega arith in
        ap (λ ms. byte_for (slice_index_or ms x 0) c.bytes bias x) marks
        ∙ ap (λ bs. byte_for (slice_index_or (all Marks) x 0) bs bias x) bytes
        ∙ byte_is bias keeps x y (omega arith) (omega arith));
  }
