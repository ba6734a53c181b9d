-- The numbers of a relocation are small, since its image is small.
use Rattle.std.proofs.Common.{◌≡◌, ◌≢◌, ◌+◌, ◌<◌, ◌≤◌, ◌^◌, ℕ, Bool, true, false, Option}
use Rattle.std.proofs.Common.{Some, None, length, refl, ap, arith}
use Rattle.std.specs.Prelude.{unwrap_or, if◌then◌else◌}
use Rattle.std.specs.List.{Contains}
use Rattle.std.proofs.lemmas.List.Elements.{All-contains}
use Rattle.elf_records.specs.declared.relocation.RelocationKind.{RelocationKind}
use Rattle.elf_records.specs.declared.relocation.RelocationKind.TheVariants.{Nothing}
use Rattle.elf_records.specs.declared.relocation_row.FieldValue.{FieldValue}
use Rattle.elf_records.specs.declared.relocation_row.FieldValue.TheVariants.{SegmentOffset, ThreadOffset}
use Rattle.elf_records.specs.RelocationRows.{is_offset, row}
use Rattle.elf_object.specs.declared.relocation.Relocation.{Relocation}
use Rattle.elf_object.specs.Lawful.{IsLawful}
use Rattle.elf_object.specs.LawsOfParts.{placed}
use Rattle.elf_object.specs.LawsOfRelocations.{lawful as relocations_lawful}
use Rattle.elf_object.specs.LawsOfSections.{kept_as}
use Rattle.elf_object.specs.Lent.{relocations, section_class}
use Rattle.elf_object.specs.Lent.{symbol_value}
use Rattle.link_faults.specs.declared.binding.Binding.{Binding}
use Rattle.link_faults.specs.declared.binding.Binding.TheVariants.{Here, Startup, Runtime}
use Rattle.link_faults.specs.declared.symbol_ref.SymbolRef.{SymbolRef}
use Rattle.link_needs.proofs.InputsLemmas.{address_small, offset_small}
use Rattle.link_needs.proofs.PlanLemmas.{table_small}
use Rattle.link_needs.specs.Given.{FitsTable, IsGiven}
use Rattle.link_needs.specs.Linking.{Linking, address, binding, block_offset, layout, object, offset}
use Rattle.link_needs.specs.Linking.{place}
use Rattle.link_needs.specs.Needs.{got_size, got_start, relocation_need, stub_start}
use Rattle.link_needs.specs.Values.{counts_from_thread_pointer, number_beside, other_number, own_number}
use Rattle.tls_layout.specs.Places.{address_of, tls_offset_of}
use Rattle.tls_layout.proofs.Together.{page_up-least}
use Rattle.link_core.proofs.GotRelocationsSites.{has_value}
use Rattle.link_core.proofs.LengthsInside.{is_object}
use Rattle.link_core.proofs.NarrowSums.{AreSmall}
use Rattle.link_core.proofs.NewFields.{block_near, entry_low}
use Rattle.link_core.proofs.StandingPlaces.{field_in}
use Rattle.link_core.proofs.NarrowSymbols.{IsKept, bound_kept}
use Rattle.link_needs.specs.Linking.{placed_value}

or_zero : (found : Option ℕ) (limit : ℕ) → ((n : ℕ) → found ≡ Some n → n ≤ limit) → unwrap_or found 0 ≤ limit
or_zero None limit small = omega arith
or_zero (Some n) limit small = small n refl

module _ (l : Linking) (given : IsGiven l) (limits : FitsTable l) where
  value_small : (found : SymbolRef) → (kept : IsKept l.objects found)
      → symbol_value (object l found.object) found.symbol ≤ 2 ^ 20
  value_small found kept =
      let b = object l found.object in
      let whole = is_object l found.object given kept.object in
      let s = kept.symbol in
      let class = has_value (section_class b s.section) s.some in
      let inside = (placed b whole found.symbol s.count).inside s.section s.place_is s.some in
      omega (arith, inside, (kept_as b whole s.section class.0 class.1).small)

  address_near : (found : SymbolRef) → IsKept l.objects found → address l found < 2 ^ 28
  unfolding address
  address_near found kept =
      let s = kept.symbol in
      let b = object l found.object in
      let e : address l found
      ≡ unwrap_or (address_of (layout l) found.object s.section) 0 + symbol_value b found.symbol =
      ap (λ p. placed_value (address_of (layout l) found.object) p (symbol_value b found.symbol)) s.place_is in
      let low = or_zero (address_of (layout l) found.object s.section) (2 ^ 25)
      (λ n is. address_small (layout l) found.object s.section n limits.lawful is) in
      omega (arith, e, low, value_small found kept)

  offset_near : (found : SymbolRef) → IsKept l.objects found → offset l found < 2 ^ 28
  unfolding offset
  offset_near found kept =
      let s = kept.symbol in
      let b = object l found.object in
      let e : offset l found
      ≡ unwrap_or (tls_offset_of (layout l) found.object s.section) 0 + symbol_value b found.symbol =
      ap (λ p. placed_value (tls_offset_of (layout l) found.object) p (symbol_value b found.symbol)) s.place_is in
      let low = or_zero (tls_offset_of (layout l) found.object s.section) (2 ^ 20)
      (λ n is. offset_small (layout l) found.object s.section n limits.lawful is) in
      omega (arith, e, low, value_small found kept)

  stub_near : stub_start l < 2 ^ 28
  stub_near =
      let top = page_up-least (got_start l + got_size l) (2 ^ 13) (omega (arith, table_small l given limits)) in
      omega (arith, top)

  own_near : (kind : RelocationKind) (bound : Option Binding)
      → ((found : SymbolRef) → bound ≡ Some (Here found) → IsKept l.objects found) → own_number l kind bound < 2 ^ 28
  own_near kind None kept = omega arith
  own_near kind (Some Runtime) kept = stub_near
  own_near kind (Some (Startup image)) kept = omega arith
  own_near kind (Some (Here found)) kept = of_test (is_offset kind)
    where
      of_test : (t : Bool) → (if t then offset l found else address l found) < 2 ^ 28
      of_test true = offset_near found (kept found refl)
      of_test false = address_near found (kept found refl)

  beside_near : (o : ℕ) (r : Relocation) (value : FieldValue) → number_beside l o r value < 2 ^ 28
  beside_near o r SegmentOffset = of_test (counts_from_thread_pointer l)
    where
      of_test : (t : Bool) → (if t then block_offset l else 0) < 2 ^ 28
      of_test true = omega (arith, block_near l limits)
      of_test false = omega arith
  beside_near o r ThreadOffset = omega (arith, block_near l limits)
  beside_near o r value = omega (arith, entry_low l (relocation_need l o r) (table_small l given limits))

  pub numbers_small : (o t : ℕ) (r : Relocation) → o < length l.objects → Contains (relocations (object l o) t) r
      → r.kind ≢ Nothing
      → AreSmall (own_number l r.kind (binding l o r)) (place l o t r.offset) (other_number l o r r.kind)
  numbers_small o t r there has some =
      let b = object l o in
      let laws = All-contains (IsLawful b t) (relocations b t) r
      (relocations_lawful b (is_object l o given there) t) has in
      let at = field_in l given limits o t r there has in
      record {
        symbol = own_near r.kind (binding l o r) (λ found is. bound_kept l given o t r found there laws some is);
        place = omega (arith, at.place_is, at.lies.below, at.fits, table_small l given limits);
        other = beside_near o r (row r.kind).value;
      }
