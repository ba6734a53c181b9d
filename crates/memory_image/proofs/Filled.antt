-- Fields that are filled in one after another are read byte by byte.
use Rattle.std.proofs.Common.{◌≡◌, ◌≤◌, ◌+◌, ◌-◌, ◌^◌, ◌∙◌, ℕ, ℤ, pos, zero, suc, Bool, true, false, List, [], ◌∷◌}
use Rattle.std.proofs.Common.{◌++◌, Option, None, Some, length, get_or, map, replicate, take, refl, sym, ap, subst}
use Rattle.std.proofs.Common.{arith}
use Rattle.std.specs.Prelude.{◌+ℤ◌, ◌-ℤ◌, ◌&&◌, nat_le, nat_lt, slice_get, slice_index_or, unwrap_or, if◌then◌else◌}
use Rattle.std.specs.List.{All, find, range_with_len}
use Rattle.std.proofs.lemmas.Bool.{and_parts, false_from_ne_true, leb-true, ltb-true}
use Rattle.std.proofs.lemmas.Bool.Decides.{nat_tests}
use Rattle.std.proofs.lemmas.List.{length-append, length-replicate, take-append-le, take_all}
use Rattle.std.proofs.lemmas.List.Elements.{All-head, All-tail, All-weaker}
use Rattle.std.proofs.lemmas.List.FromFn.{fill_by_all, get_or-map-range_with_len, length-map-range_with_len}
use Rattle.std.proofs.lemmas.Option.{same_Some, slice_get-get_or}
use Rattle.elf_object.specs.declared.relocation.Relocation.{Relocation}
use Rattle.elf_object.specs.Faults.{IsObject}
use Rattle.elf_object.specs.Lawful.{IsLawful}
use Rattle.elf_object.specs.LawsOfRelocations.{lawful}
use Rattle.elf_object.specs.LawsOfSections.{kept_as}
use Rattle.elf_object.specs.Lent.{relocations, section_bytes, section_class, section_size}
use Rattle.elf_records.specs.declared.relocation.RelocationKind.{RelocationKind}
use Rattle.elf_records.specs.declared.relocation.RelocationKind.TheVariants.{Absolute64, Pc32, Plt32, Absolute32}
use Rattle.elf_records.specs.declared.relocation.RelocationKind.TheVariants.{Absolute32Signed, TpOff32}
use Rattle.elf_records.specs.Laws.{length-bytes_of}
use Rattle.elf_records.specs.Relocations.{field_width}
use Rattle.link_faults.specs.declared.binding.Binding.{Binding}
use Rattle.link_faults.specs.declared.binding.Binding.TheVariants.{Here}
use Rattle.link_needs.specs.Linking.{Linking, binding, object, place}
use Rattle.object_faults.specs.declared.class.SectionClass.{SectionClass}
use Rattle.sequence_match.proofs.Sections.{fields_apart}
use Rattle.sequence_match.specs.Code.{AreApart}
use Rattle.sequence_match.specs.Sites.{Covers}
use Rattle.tls_relocs.specs.declared.fields.Field.{Field}
use Rattle.tls_relocs.specs.declared.fields.Field.TheVariants.{Empty, Word32, Word64}
use Rattle.tls_relocs.specs.Fields.{field_bytes}
use Rattle.tls_relocs.specs.FieldLaws.{field_patch, width_of}
use Rattle.tls_relocs.specs.PatchLaws.{patched_bytes, patched_keeps}
use Rattle.tls_relocs.specs.Patches.{patched}
use Rattle.tls_relocs.specs.Values.{fits_signed, fits_unsigned, stored_field, word32}
use Rattle.whole_meaning.specs.Bytes.{covers, has_value}
use Rattle.memory_image.specs.declared.fields.Table.{Table}
use Rattle.memory_image.specs.declared.fields.Table.TheVariants.{Bytes, Marks}
use Rattle.memory_image.specs.Filling.{byte_by_field, cell_in, field_in, filled_field, marks_of, moved_place, own_byte}
use Rattle.memory_image.specs.Filling.{own_bytes, own_field, own_number, own_subtracted, raw_bytes, with_field}
use Rattle.memory_image.specs.Filling.{with_fields}

-- ** how wide fields are

width_word32 : (t : Bool) (z : ℤ) → width_of (unwrap_or (word32 t z) (Word32 0)) ≡ 4
width_word32 true z = refl
width_word32 false z = refl

width_stored : (kind : RelocationKind) (s : ℕ) (a : ℤ) (p g : ℕ) → has_value kind ≡ true
    → width_of (unwrap_or (stored_field kind s a p g) (Word32 0)) ≡ field_width kind
width_stored Absolute64 s a p g h = refl
width_stored Pc32 s a p g h = width_word32 (fits_signed ((pos s +ℤ a) -ℤ pos p)) ((pos s +ℤ a) -ℤ pos p)
width_stored Plt32 s a p g h = width_word32 (fits_signed ((pos s +ℤ a) -ℤ pos p)) ((pos s +ℤ a) -ℤ pos p)
width_stored Absolute32 s a p g h = width_word32 (fits_unsigned (pos s +ℤ a)) (pos s +ℤ a)
width_stored Absolute32Signed s a p g h = width_word32 (fits_signed (pos s +ℤ a)) (pos s +ℤ a)
width_stored TpOff32 s a p g h = width_word32 (fits_signed ((pos s +ℤ a) -ℤ pos g)) ((pos s +ℤ a) -ℤ pos g)
width_stored kind s a p g h = absurd (impossible h)
  where
    impossible : false ≡ true → ⊥
    impossible e = cc

width_marks : (kind : RelocationKind) (bound : Option Binding) → has_value kind ≡ true
    → width_of (marks_of kind bound) ≡ field_width kind
width_marks Absolute64 (Some (Here found)) h = refl
width_marks Absolute64 bound h = refl
width_marks Pc32 bound h = refl
width_marks Plt32 bound h = refl
width_marks Absolute32 bound h = refl
width_marks Absolute32Signed bound h = refl
width_marks TpOff32 bound h = refl
width_marks kind bound h = absurd (impossible h)
  where
    impossible : false ≡ true → ⊥
    impossible e = cc

pub width_field : (table : Table) (l : Linking) (o s : ℕ) (r : Relocation) → has_value r.kind ≡ true
    → width_of (field_in table l o s r) ≡ field_width r.kind
unfolding own_field
width_field Bytes l o s r h =
    width_stored r.kind (own_number l r.kind (binding l o r)) r.addend
    (place l o s r.offset + moved_place l.kind (binding l o r)) (own_subtracted l r.kind) h
width_field Marks l o s r h = width_marks r.kind (binding l o r) h

length_field : (f : Field) → length (field_bytes f) ≡ width_of f
length_field Empty = refl
length_field (Word32 w) = length-bytes_of 4 w
length_field (Word64 w) = length-bytes_of 8 w

pub width_filled : (table : Table) (l : Linking) (o s : ℕ) (r : Relocation)
    → width_of (filled_field table l o s r) ≤ field_width r.kind
width_filled table l o s r = by_value (has_value r.kind) refl
  where
    by_value : (t : Bool) → has_value r.kind ≡ t → width_of (filled_field table l o s r) ≤ field_width r.kind
    by_value true h = rw h (let e = width_field table l o s r h in omega arith)
    by_value false h = rw h (omega arith)

-- ** a section's own bytes

abbrev pub zeros : ℕ → List ℕ
zeros m = replicate m 0

pub zeros_at : (m k : ℕ) → slice_index_or (zeros m) k 0 ≡ 0
zeros_at zero k = refl
zeros_at (suc m) zero = refl
zeros_at (suc m) (suc k) = zeros_at m k

padded_at : (xs : List ℕ) (m k : ℕ) → slice_index_or (xs ++ zeros m) k 0 ≡ slice_index_or xs k 0
padded_at [] m k = zeros_at m k
padded_at (x ∷ xs) m zero = refl
padded_at (x ∷ xs) m (suc k) = padded_at xs m k

raw_at : (table : Table) (b : List ℕ) (s k : ℕ)
    → slice_index_or (raw_bytes table (section_bytes b s)) k 0 ≡ own_byte table b s k
raw_at Bytes b s k = refl
raw_at Marks b s k = refl

raw_short : (table : Table) (bytes : List ℕ) (n : ℕ) → length bytes ≤ n → length (raw_bytes table bytes) ≤ n
raw_short Bytes bytes n h = h
raw_short Marks bytes n h = omega arith

pub own_is : (table : Table) (b : List ℕ) (s n len : ℕ) (own now : List ℕ) → n ≡ section_size b s
    → length (section_bytes b s) ≤ n
    → own ≡ raw_bytes table (section_bytes b s) → len ≡ length own → now ≡ take n own ++ zeros (n - len)
    → now ≡ own_bytes table b s
own_is table b s n len own now size short raw long e =
    let few : length own ≤ n = rw raw (raw_short table (section_bytes b s) n short) in
    let whole : now ≡ own ++ zeros (n - len) = e ∙ ap (λ xs. xs ++ zeros (n - len)) (take_all n own few) in
    let count : length now ≡ section_size b s =
    ap length whole ∙ length-append own (zeros (n - len)) ∙ sum (length-replicate {A = ℕ} (n - len) 0) few in
    fill_by_all (own_byte table b s) now (section_size b s) 0 count (λ k below.
    ap (λ xs. get_or xs k 0) whole ∙ padded_at own (n - len) k ∙ ap (λ xs. get_or xs k 0) raw ∙ raw_at table b s k)
  where
    sum : length (zeros (n - len)) ≡ n - len → length own ≤ n → length own + length (zeros (n - len)) ≡ section_size b s
    sum pad few = omega arith

pub length_own : (table : Table) (b : List ℕ) (s : ℕ) → length (own_bytes table b s) ≡ section_size b s
length_own table b s = length-map-range_with_len (own_byte table b s) 0 (section_size b s)

-- what a slice of a list leaves of the list
pub front_is : (xs ys : List ℕ) (n : ℕ) → n ≡ length xs → take n (xs ++ ys) ≡ xs
front_is xs ys n e =
    let within : n ≤ length xs = omega arith in
    take-append-le n xs ys within ∙ take_all n xs (omega arith)

pub section_small : (b : List ℕ) (s : ℕ) (class : SectionClass) → IsObject b → section_class b s ≡ Some class
    → section_size b s ≤ 2 ^ 20
section_small b s class is e = (kept_as b is s class e).small

-- ** one field

-- a field of w bytes
one_patch : (f : Field) (at w : ℕ) (bs : List ℕ) (k : ℕ) → width_of f ≡ w → at + w ≤ length bs
    → slice_get (patched (field_patch at f ∷ []) bs) k
    ≡ (if nat_le at k && nat_lt k (at + w) then slice_get (field_bytes f) (k - at) else slice_get bs k)
one_patch f at w bs k e fits =
    let len : length (field_bytes f) ≡ w = length_field f ∙ e in
    let inside : at + length (field_bytes f) ≤ length bs = omega arith in
    patched_bytes (field_patch at f ∷ []) bs k (inside, tt)
    ∙ ap (λ n. if nat_le at k && nat_lt k (at + n) then slice_get (field_bytes f) (k - at) else slice_get bs k) len

one_length : (f : Field) (at w : ℕ) (bs : List ℕ) → width_of f ≡ w → at + w ≤ length bs
    → length (patched (field_patch at f ∷ []) bs) ≡ length bs
one_length f at w bs e fits =
    let len : length (field_bytes f) ≡ w = length_field f ∙ e in
    let inside : at + length (field_bytes f) ≤ length bs = omega arith in
    patched_keeps (field_patch at f ∷ []) bs (inside, tt)

no_place : (at k : ℕ) → (nat_le at k && nat_lt k (at + 0)) ≡ false
no_place at k = grind (arith, nat_tests)

covers_is : (r : Relocation) (k : ℕ) → covers k r ≡ true → Covers r k
covers_is r k h =
    let parts = and_parts (nat_le r.offset k) (nat_lt k (r.offset + field_width r.kind)) h in
    (leb-true r.offset k parts.0, ltb-true k (r.offset + field_width r.kind) parts.1)

-- the relocation's field holds a number of the program's own, and byte k is one of it
abbrev pub hits : ℕ → Relocation → Bool
hits k r = has_value r.kind && covers k r

pub hits_parts : (k : ℕ) (r : Relocation) → hits k r ≡ true → (has_value r.kind ≡ true) × Covers r k
hits_parts k r h = let parts = and_parts (has_value r.kind) (covers k r) h in (parts.0, covers_is r k parts.1)

-- ** more

pub apart_rest : (x : Relocation) (more : List Relocation) → AreApart (x ∷ more) → AreApart more
apart_rest x more never e f k y z first next less covers again =
    never (suc e) (suc f) k y z first next (omega arith) covers again

apart_skip : (x y : Relocation) (more : List Relocation) → AreApart (x ∷ y ∷ more) → AreApart (x ∷ more)
apart_skip x y more never zero (suc f) k v w first next less covers again =
    never zero (suc (suc f)) k v w first next (omega arith) covers again
apart_skip x y more never (suc e) (suc f) k v w first next less covers again =
    never (suc (suc e)) (suc (suc f)) k v w first next (omega arith) covers again
apart_skip x y more never zero zero k v w first next less covers again = absurd (omega arith)
apart_skip x y more never (suc e) zero k v w first next less covers again = absurd (omega arith)

-- where the first one has the byte no other has it
pub none_more : (r : Relocation) (more : List Relocation) (k : ℕ) → AreApart (r ∷ more) → Covers r k
    → find (hits k) more ≡ None
none_more r [] k apart covers = refl
none_more r (y ∷ more) k apart covers =
    rw (miss (apart 0 1 k r y refl refl (omega arith) covers)) (none_more r more k (apart_skip r y more apart) covers)
  where
    miss : (Covers y k → ⊥) → hits k y ≡ false
    miss never = false_from_ne_true (hits k y) (λ h. never (hits_parts k y h).1)

module _ (table : Table) (l : Linking) (o s : ℕ) where
  -- a byte after one field, and after many
  at_one : (bs : List ℕ) (k : ℕ) (r : Relocation) → r.offset + field_width r.kind ≤ length bs
      → slice_get (with_field table l o s bs r) k
      ≡ (if hits k r then slice_get (field_bytes (field_in table l o s r)) (k - r.offset) else slice_get bs k)
  at_one bs k r fits = by_value (has_value r.kind) refl
    where
      by_value : (t : Bool) → has_value r.kind ≡ t
          → slice_get (with_field table l o s bs r) k
          ≡ (if hits k r then slice_get (field_bytes (field_in table l o s r)) (k - r.offset) else slice_get bs k)
      by_value true h = rw h (one_patch (field_in table l o s r) r.offset (field_width r.kind) bs k
          (width_field table l o s r h) fits)
      by_value false h = rw h (one_patch Empty r.offset 0 bs k refl (omega arith) ∙ rw (no_place r.offset k) refl)

  keeps_length : (bs : List ℕ) (r : Relocation) → r.offset + field_width r.kind ≤ length bs
      → length (with_field table l o s bs r) ≡ length bs
  keeps_length bs r fits = by_value (has_value r.kind) refl
    where
      by_value : (t : Bool) → has_value r.kind ≡ t → length (with_field table l o s bs r) ≡ length bs
      by_value true h = rw h (one_length (field_in table l o s r) r.offset (field_width r.kind) bs
          (width_field table l o s r h) fits)
      by_value false h = rw h (one_length Empty r.offset 0 bs refl (omega arith))

  pub filled_length : (rs : List Relocation) (bs : List ℕ) (n : ℕ) → length bs ≡ n
      → All (λ r. r.offset + field_width r.kind ≤ n) rs → length (with_fields table l o s bs rs) ≡ n
  filled_length [] bs n long all = long
  filled_length (r ∷ more) bs n long all =
      let fits : r.offset + field_width r.kind ≤ n = All-head (λ r. r.offset + field_width r.kind ≤ n) r more all in
      filled_length more (with_field table l o s bs r) n (keeps_length bs r (omega arith) ∙ long)
      (All-tail (λ r. r.offset + field_width r.kind ≤ n) r more all)

  abbrev byte_or : Option ℕ → ℕ → Option Relocation → Option ℕ
  byte_or own k None = own
  byte_or own k (Some r) = slice_get (field_bytes (field_in table l o s r)) (k - r.offset)

  pub filled_at : (rs : List Relocation) (bs : List ℕ) (n k : ℕ) → length bs ≡ n
      → All (λ r. r.offset + field_width r.kind ≤ n) rs → AreApart rs
      → slice_get (with_fields table l o s bs rs) k ≡ byte_or (slice_get bs k) k (find (hits k) rs)
  filled_at [] bs n k long all apart = refl
  filled_at (r ∷ more) bs n k long all apart =
      by_hit (hits k r) refl
      (filled_at more (with_field table l o s bs r) n k (keeps_length bs r (omega (arith, fits)) ∙ long)
      (All-tail (λ r. r.offset + field_width r.kind ≤ n) r more all) (apart_rest r more apart))
    where
      fits : r.offset + field_width r.kind ≤ n
      fits = All-head (λ r. r.offset + field_width r.kind ≤ n) r more all

      by_hit : (t : Bool) → hits k r ≡ t
          → slice_get (with_fields table l o s (with_field table l o s bs r) more) k
          ≡ byte_or (slice_get (with_field table l o s bs r) k) k (find (hits k) more)
          → slice_get (with_fields table l o s (with_field table l o s bs r) more) k
          ≡ byte_or (slice_get bs k) k (find (hits k) (r ∷ more))
      by_hit true h rest =
          let none : find (hits k) more ≡ None = none_more r more k apart (hits_parts k r h).1 in
          let one : slice_get (with_field table l o s bs r) k
          ≡ slice_get (field_bytes (field_in table l o s r)) (k - r.offset) = at_one bs k r (omega (arith, fits))
          ∙ rw h refl in
          rest ∙ rw (none, h) one
      by_hit false h rest =
          let one : slice_get (with_field table l o s bs r) k ≡ slice_get bs k = at_one bs k r (omega (arith, fits))
          ∙ rw h refl in
          rest ∙ rw (h, one) refl

  -- the section as the table says it
  pub section_filled : IsObject (object l o)
      → with_fields table l o s (own_bytes table (object l o) s) (relocations (object l o) s)
      ≡ map (cell_in table l o s) (range_with_len 0 (section_size (object l o) s))
  unfolding cell_in
  section_filled is =
      let b = object l o in
      let rs = relocations b s in
      let n = section_size b s in
      let own = own_bytes table b s in
      let long : length own ≡ n = length-map-range_with_len (own_byte table b s) 0 n in
      let inside : All (λ r. r.offset + field_width r.kind ≤ n) rs =
      All-weaker (IsLawful b s) (λ r. r.offset + field_width r.kind ≤ n) (λ r x. x.inside) rs (lawful b is s) in
      let whole : length (with_fields table l o s own rs) ≡ n = filled_length rs own n long inside in
      fill_by_all (λ k. byte_by_field table l o s k (find (hits k) rs)) (with_fields table l o s own rs) n 0 whole
      (λ k below.
      let now : slice_get (with_fields table l o s own rs) k ≡ Some (get_or (with_fields table l o s own rs) k 0) =
      slice_get-get_or (with_fields table l o s own rs) k 0 (omega arith) in
      let first : slice_get own k ≡ Some (own_byte table b s k) =
      slice_get-get_or own k 0 (omega arith)
      ∙ ap Some (get_or-map-range_with_len (own_byte table b s) 0 n k k 0 below (omega arith)) in
      same_Some _ _ (sym now ∙ filled_at rs own n k long inside (fields_apart b is s)
      ∙ ap (λ x. byte_or x k (find (hits k) rs)) first ∙ known k (find (hits k) rs) (found_hits k rs)))
    where
      found_hits : (k : ℕ) (rs : List Relocation) (r : Relocation) → find (hits k) rs ≡ Some r → hits k r ≡ true
      found_hits k [] r e = absurd (impossible e)
        where
          impossible : None ≡ Some r → ⊥
          impossible h = cc
      found_hits k (y ∷ rs) r e = by_hit (hits k y) refl (found_hits k rs r) e
        where
          by_hit : (t : Bool) → hits k y ≡ t → (find (hits k) rs ≡ Some r → hits k r ≡ true)
              → (if t then Some y else find (hits k) rs) ≡ Some r → hits k r ≡ true
          by_hit true h later e = subst (λ (x : Relocation). hits k x ≡ true) (same_Some y r e) h
          by_hit false h later e = later e

      known : (k : ℕ) (found : Option Relocation) → ((r : Relocation) → found ≡ Some r → hits k r ≡ true)
          → byte_or (Some (own_byte table (object l o) s k)) k found ≡ Some (byte_by_field table l o s k found)
      known k None hit = refl
      known k (Some r) hit =
          let h = hits_parts k r (hit r refl) in
          let len = length_field (field_in table l o s r) ∙ width_field table l o s r h.0 in
          let low = h.1.0 in
          let high = h.1.1 in
          slice_get-get_or (field_bytes (field_in table l o s r)) (k - r.offset) 0 (omega arith)
