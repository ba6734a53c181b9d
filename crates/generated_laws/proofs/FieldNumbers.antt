-- The numbers that fields are made of are small, and so what they hold fits.
use Rattle.std.proofs.Common.{◌≡◌, ◌+◌, ◌-◌, ◌≤◌, ◌^◌, ◌==◌, ℕ, ℤ, Bool, true, false, List, [], ◌∷◌}
use Rattle.std.proofs.Common.{Option, Some, None, FitsSigned, IsSome, refl, arith}
use Rattle.std.specs.Prelude.{pos, neg_ℤ, fold, ◌+ℤ◌, ◌-ℤ◌, IsNone, unwrap_or}
use Rattle.std.specs.Prelude.{if◌then◌else◌}
use Rattle.std.specs.Int.{w32}
use Rattle.std.specs.Int.Signed.{mag}
use Rattle.std.specs.List.{All}
use Rattle.std.specs.Option.{IfSome}
use Rattle.std.proofs.lemmas.List.Elements.{All-head, All-tail}
use Rattle.elf_records.specs.Alignments.{IsAlignment}
use Rattle.elf_object.specs.Lent.{symbol_place, symbol_value}
use Rattle.elf_object.specs.declared.symbol.SymbolPlace.TheVariants.{InSection}
use Rattle.got_pairs.specs.declared.need.Need.{Need}
use Rattle.got_pairs.specs.Needs.{size_of, start_of, total_size}
use Rattle.got_pairs.proofs.Served.{within}
use Rattle.link_faults.specs.declared.symbol_ref.SymbolRef.{SymbolRef}
use Rattle.tls_layout.specs.declared.sections.Section.{Section}
use Rattle.tls_layout.specs.Places.{IsLawful, address_of, greatest_alignment, next_alignment, tls_alignment}
use Rattle.tls_layout.specs.Places.{tls_offset_of, tls_size}
use Rattle.tls_layout.specs.Rounding.{page_up}
use Rattle.tls_layout.specs.Sections.{IsOrdinary}
use Rattle.tls_layout.proofs.Bounds.{address_bounds}
use Rattle.tls_layout.proofs.LawsOfTls.{lie_in_segment}
use Rattle.tls_layout.proofs.Rounds.{power_bounds, round_up-near}
use Rattle.tls_layout.proofs.Together.{power_more}
use Rattle.tls_relocs.specs.ValueLaws.{signed_fits}
use Rattle.tls_relocs.specs.Values.{signed_field}
use Rattle.link_needs.specs.Given.{FitsTable, IsGiven}
use Rattle.link_needs.specs.Linking.{Linking, block_offset, layout, object, offset, place}
use Rattle.link_needs.specs.Needs.{entries, entry_by, got_size, got_start, need_address, stub_start}
use Rattle.link_needs.proofs.PlanLemmas.{table_small}
use Rattle.link_core.proofs.LengthsRaw.{neg_mag, sum_mag}

-- ** differences

-- small numbers lie near each other: their difference fits a field
pub difference_fits : (x y : ℕ) (a : ℤ) → x ≤ 2 ^ 29 → y ≤ 2 ^ 29 → mag a ≤ 3
    → IsSome (signed_field ((pos x +ℤ a) -ℤ pos y))
difference_fits x y a first second small =
    let z = (pos x +ℤ a) -ℤ pos y in
    let fits : FitsSigned w32 z =
    record { sfits = omega (arith, sum_mag (pos x +ℤ a) (neg_ℤ (pos y)), sum_mag (pos x) a, neg_mag y) } in
    (signed_fits z).1 fits

pub not_none : {X : Type 0} (x : Option X) → IsSome x → IsNone x → ⊥
not_none None some none = cc
not_none (Some x) some none = cc

-- ** places

module _ (l : Linking) where
  pub place_small : (o t k : ℕ) → IsLawful (layout l) → place l o t k ≤ 2 ^ 25 + k
  place_small o t k lawful = of_address (address_of (layout l) o t) refl
    where
      of_address : (address : Option ℕ) → address_of (layout l) o t ≡ address → unwrap_or address 0 + k ≤ 2 ^ 25 + k
      of_address None is = omega arith
      of_address (Some address) is =
          let near = address_bounds (layout l) o t address is lawful in omega arith

  -- an entry lies in the table, or there is none
  pub need_small : (need : Option Need) → IsGiven l → FitsTable l → need_address l need ≤ 2 ^ 25
  need_small None given limits = omega arith
  need_small (Some need) given limits =
      of_start (start_of (entries l) need) (within (entries l) need (start_of (entries l) need) refl)
      (table_small l given limits)
    where
      of_start : (at : Option ℕ) → IfSome at (λ s. s + size_of need ≤ total_size (entries l))
          → got_start l + got_size l ≤ 2 ^ 25 → entry_by l at ≤ 2 ^ 25
      of_start None inside table = omega arith
      of_start (Some at) inside table = omega arith

  pub stub_small : IsGiven l → FitsTable l → stub_start l ≤ 2 ^ 26
  unfolding page_up
  stub_small given limits =
      omega (arith, table_small l given limits, round_up-near (got_start l + got_size l) 4096 (omega arith))

  -- ** offsets

  section_offset : (o s : ℕ) → IsLawful (layout l) → unwrap_or (tls_offset_of (layout l) o s) 0 ≤ 2 ^ 20
  section_offset o s lawful = of_offset (tls_offset_of (layout l) o s) refl
    where
      of_offset : (offset : Option ℕ) → tls_offset_of (layout l) o s ≡ offset → unwrap_or offset 0 ≤ 2 ^ 20
      of_offset None is = omega arith
      of_offset (Some offset) is =
          omega (arith, (lie_in_segment (layout l) lawful o s offset is).inside, lawful.small_tls)

  -- of what begins a section
  pub offset_small : (found : SymbolRef) (s : ℕ) → IsLawful (layout l)
      → symbol_place (object l found.object) found.symbol ≡ InSection s
      → symbol_value (object l found.object) found.symbol ≡ 0 → offset l found ≤ 2 ^ 20
  unfolding offset
  offset_small found s lawful placed first =
      rw (placed, first) (omega (arith, section_offset found.object s lawful))

-- the alignment of the segment is a power of two
folds_power : (greatest : ℕ) (sections : List Section) → IsAlignment greatest → All IsOrdinary sections
    → IsAlignment (fold next_alignment greatest sections)
folds_power greatest [] power ordinary = power
folds_power greatest (x ∷ xs) power ordinary =
    folds_power (next_alignment greatest x) xs
    (power_more greatest x power (All-head IsOrdinary x xs ordinary)) (All-tail IsOrdinary x xs ordinary)

alignment_power : (sections : List Section) → All IsOrdinary sections → IsAlignment (tls_alignment sections)
unfolding tls_alignment greatest_alignment
alignment_power sections ordinary = of_test (tls_size sections == 0)
  where
    of_test : (t : Bool) → IsAlignment (if t then 1 else fold next_alignment 1 sections)
    of_test true = (0, omega arith, refl)
    of_test false = folds_power 1 sections (0, omega arith, refl) ordinary

-- the block of a program begins near below the thread pointer
pub block_small : (l : Linking) → IsLawful (layout l) → block_offset l ≤ 2 ^ 21
unfolding block_offset
block_small l lawful =
    let sections = (layout l).sections in
    let bounds = power_bounds (tls_alignment sections) (alignment_power sections lawful.ordinary) in
    omega (arith, round_up-near (tls_size sections) (tls_alignment sections) bounds.0, bounds.1, lawful.small_tls)
