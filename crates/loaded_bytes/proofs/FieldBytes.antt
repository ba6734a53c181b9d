-- The field of a relocation at a byte of a section, and bytes that no relocation of the image writes.
use Rattle.std.proofs.Common.{◌≡◌, ◌+◌, ◌-◌, ◌<◌, ◌≤◌, ◌==◌, ◌&&◌, ◌∙◌, ℕ, Bool, true, false, not}
use Rattle.std.proofs.Common.{Option, Some, None, length, refl, sym, ap, arith, if◌then◌else◌}
use Rattle.std.specs.Prelude.{◌^◌, ◌+ℤ◌, ℤ, pos, nat_le, nat_lt, slice_index_or, unwrap_or}
use Rattle.std.specs.List.{Contains, find}
use Rattle.std.proofs.lemmas.Bool.{le-leb, lt-ltb}
use Rattle.std.proofs.lemmas.Bool.Decides.{nat_tests}
use Rattle.elf_object.specs.declared.relocation.Relocation.{Relocation}
use Rattle.elf_object.specs.Lent.{relocations, section_bytes}
use Rattle.elf_object.specs.Relocations.{field_width}
use Rattle.elf_records.specs.declared.relocation.RelocationKind.{RelocationKind}
use Rattle.elf_records.specs.declared.relocation.RelocationKind.TheVariants.{Absolute64}
use Rattle.image_file.specs.declared.relocation.ImageRelocation.{ImageRelocation}
use Rattle.image_writer.specs.Linkable.{width}
use Rattle.link_core.proofs.Few.{table_fits}
use Rattle.link_core.proofs.LengthsInside.{is_object}
use Rattle.link_core.proofs.Together.{together}
use Rattle.link_core.specs.Dynamic.{is_absolute}
use Rattle.link_core.specs.Faults.{Links}
use Rattle.link_core.specs.Laws.{HasNoStray}
use Rattle.link_core.specs.Meant.{is_in_field, is_in_rewritten, meant_byte, site_byte}
use Rattle.link_core.specs.Meant as filed
use Rattle.link_faults.specs.ImageKinds.{is_moved}
use Rattle.link_needs.specs.Given.{FitsTable, IsGiven}
use Rattle.link_needs.specs.Linking.{Linking, binding, choice, object, place, sites_at}
use Rattle.link_needs.specs.Needs.{is_kept}
use Rattle.link_needs.specs.Values.{field, goes, is_replaced, is_rewriting, other_number, own_number}
use Rattle.relocated_parts.specs.Left.{is_written_at}
use Rattle.sequence_match.proofs.Sections.{fields_apart}
use Rattle.sequence_match.specs.Sites.{Covers}
use Rattle.tls_relocs.specs.declared.fields.Field.TheVariants.{Empty, Word64}
use Rattle.tls_relocs.specs.Fields.{field_bytes}
use Rattle.tls_relocs.specs.Values.{modulo, stored_field}
use Rattle.whole_meaning.specs.Spots.{bias_of}
use Rattle.loaded_bytes.specs.Bytes.{field_byte, loaded_byte, loaded_field}
use Rattle.loaded_bytes.proofs.Finds.{found_is, none_found, none_passes}
use Rattle.link_core.proofs.StandingFields.{shared}
use Rattle.link_core.proofs.RelativesFields.{absolute_is}

-- ** tests

pub written_so : (address : ℕ) (r : ImageRelocation) → r.place ≤ address → address < r.place + width r.kind
    → is_written_at address r ≡ true
written_so address r low high =
    rw (le-leb r.place address low, lt-ltb address (r.place + width r.kind) high) refl

-- an address of 8 bytes in an image that is not moved
absolute_field : (kind : RelocationKind) (s : ℕ) (a : ℤ) (p g b : ℕ) → is_absolute kind ≡ true → b ≡ 0
    → Some (Word64 (modulo (2 ^ 64) (pos (s + b) +ℤ a))) ≡ stored_field kind s a p g
absolute_field Absolute64 s a p g b e zero =
    let same : s + b ≡ s = omega (arith, zero) in ap (λ n. Some (Word64 (modulo (2 ^ 64) (pos n +ℤ a)))) same
absolute_field kind s a p g b e zero = cc

module _ (l : Linking) (given : IsGiven l) (links : Links l) (stray : HasNoStray l) where
  fits : FitsTable l
  fits = table_fits l given links.sound.limits

  -- an address of 8 bytes has its field
  pub not_replaced : (o : ℕ) (r : Relocation) → is_absolute r.kind ≡ true → is_replaced l o r ≡ false
  unfolding is_replaced
  not_replaced o r e = ap (λ kind. is_rewriting l && goes (binding l o r) kind) (absolute_is r.kind e)
      ∙ of_test (is_rewriting l)
    where
      of_test : (t : Bool) → (t && false) ≡ false
      of_test true = refl
      of_test false = refl

  -- ** the field of a relocation that has one, at a byte of a section

  module _ (o t k : ℕ) (there : o < length l.objects) (r : Relocation) (has : Contains (relocations (object l o) t) r)
      (stays : is_replaced l o r ≡ false) (low : r.offset ≤ k) (high : k < r.offset + field_width r.kind) where
    in_field : (k' : ℕ) (y : Relocation) → is_in_field l o k' y ≡ true → Covers y k'
    in_field k' y e = test y.offset k' (y.offset + field_width y.kind) (is_replaced l o y) e
      where
        test : (a b c : ℕ) (replaced : Bool) → ((nat_le a b && nat_lt b c) && not replaced) ≡ true → (a ≤ b) × (b < c)
        test a b c replaced e = grind (arith, nat_tests)

    field_found : find (is_in_field l o k) (relocations (object l o) t) ≡ Some r
    field_found = of_found (find (is_in_field l o k) (relocations (object l o) t)) refl
      where
        hits : is_in_field l o k r ≡ true
        hits =
            rw (
              le-leb r.offset k low,
              lt-ltb k (r.offset + field_width r.kind) high,
              stays,
            ) refl

        of_found : (found : Option Relocation) → find (is_in_field l o k) (relocations (object l o) t) ≡ found
            → find (is_in_field l o k) (relocations (object l o) t) ≡ Some r
        of_found None e = absurd (none_passes (is_in_field l o k) (relocations (object l o) t) r e has hits)
        of_found (Some y) e =
            let f = found_is (is_in_field l o k) (relocations (object l o) t) y e in
            e ∙ ap Some (shared (relocations (object l o) t) r y k
            (fields_apart (object l o) (is_object l o given there) t)
            has f.among (low, high) (in_field k y f.passes))

    -- no sequence stands there
    no_sequence : find (is_in_rewritten l o t k) (sites_at l o) ≡ None
    no_sequence =
        none_found (is_in_rewritten l o t k) (sites_at l o) (λ site own passes.
        let x = tests site.section t site.start k (site.start + site.len) (is_kept (choice l o site)) passes in
        let kept = (together l o t r given links stray there has).outside stays k site (low, high)
        (record { own = own; section = x.0; from = x.1; to = x.2 }) in
        let other = x.3 in
        cc)
      where
        tests : (a b c d e : ℕ) (kept : Bool) → ((a == b) && (nat_le c d && nat_lt d e) && not kept) ≡ true
            → (a ≡ b) × (c ≤ d) × (d < e) × (kept ≡ false)
        tests a b c d e kept h = grind (arith, nat_tests)

    pub loaded_is : (bias : ℕ) → loaded_byte l bias o t k
        ≡ slice_index_or (field_bytes (unwrap_or (loaded_field l bias o t r) Empty)) (k - r.offset) 0
    unfolding loaded_byte
    loaded_is bias =
        let own = slice_index_or (section_bytes (object l o) t) k 0 in
        ap
        (λ site. site_byte l o k site
        (field_byte l bias o t k (find (is_in_field l o k) (relocations (object l o) t)) own))
        no_sequence
        ∙ ap (λ found. field_byte l bias o t k found own) field_found

  -- ** a byte that no relocation of the image writes

  module _ (o t k : ℕ) (number : ℕ) where
    -- the field is that of the file, unless it is an address of an image that is moved
    still_field : (r : Relocation) → is_moved l.kind ≡ false
        → loaded_field l (bias_of l.kind number) o t r ≡ field l o t r
    unfolding field
    still_field r still = of_test (is_absolute r.kind) refl
      where
        zero_bias : bias_of l.kind number ≡ 0
        zero_bias = rw still refl

        of_test : (x : Bool) → is_absolute r.kind ≡ x
            → (if x
            then Some (Word64 (modulo (2 ^ 64)
            (pos (own_number l r.kind (binding l o r) + bias_of l.kind number) +ℤ r.addend)))
            else field l o t r)
            ≡ field l o t r
        of_test true e =
            absolute_field r.kind (own_number l r.kind (binding l o r)) r.addend (place l o t r.offset)
            (other_number l o r r.kind) (bias_of l.kind number) e zero_bias
        of_test false e = refl

    other_field : (r : Relocation) → is_absolute r.kind ≡ false
        → loaded_field l (bias_of l.kind number) o t r ≡ field l o t r
    other_field r e = rw e refl

    -- so is the byte
    pub same_byte : ((r : Relocation) → find (is_in_field l o k) (relocations (object l o) t) ≡ Some r
        → is_absolute r.kind ≡ true → is_moved l.kind ≡ true → ⊥)
        → meant_byte l o t k ≡ loaded_byte l (bias_of l.kind number) o t k
    unfolding meant_byte loaded_byte
    same_byte clean =
        ap (site_byte l o k (find (is_in_rewritten l o t k) (sites_at l o)))
        (of_found (find (is_in_field l o k) (relocations (object l o) t)) refl)
      where
        own : ℕ
        own = slice_index_or (section_bytes (object l o) t) k 0

        of_found : (found : Option Relocation) → find (is_in_field l o k) (relocations (object l o) t) ≡ found
            → filed.field_byte l o t k found own ≡ field_byte l (bias_of l.kind number) o t k found own
        of_found None e = refl
        of_found (Some r) e =
            ap (λ value. slice_index_or (field_bytes (unwrap_or value Empty)) (k - r.offset) 0)
            (sym (same (is_absolute r.kind) refl (is_moved l.kind) refl))
          where
            same : (a : Bool) → is_absolute r.kind ≡ a → (b : Bool) → is_moved l.kind ≡ b
                → loaded_field l (bias_of l.kind number) o t r ≡ field l o t r
            same a absolute false still = still_field r still
            same false other true moved = other_field r other
            same true absolute true moved = absurd (clean r e absolute moved)
