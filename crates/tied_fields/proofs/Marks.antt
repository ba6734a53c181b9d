-- What a mark tells of the place: a byte of the field of a relocation that lies outside all sequences.
use Rattle.std.proofs.Common.{◌≡◌, ◌-◌, ◌≤◌, ℕ, ℤ, Bool, true, false, List, Option, Some, None}
use Rattle.std.proofs.Common.{refl, sym, arith, if◌then◌else◌}
use Rattle.std.specs.Prelude.{nat_lt}
use Rattle.std.specs.List.{find}
use Rattle.std.proofs.lemmas.Bool.Decides.{nat_tests}
use Rattle.elf_object.specs.declared.relocation.Relocation.{Relocation}
use Rattle.elf_object.specs.Lent.{relocations}
use Rattle.elf_records.specs.declared.relocation.RelocationKind.{RelocationKind}
use Rattle.elf_records.specs.declared.relocation.RelocationKind.TheVariants.{DtpOff32, GotPcRel, GotPcRelX}
use Rattle.elf_records.specs.declared.relocation.RelocationKind.TheVariants.{RexGotPcRelX}
use Rattle.link_faults.specs.declared.binding.Binding.{Binding}
use Rattle.link_needs.specs.Linking.{Linking, binding, object, sites_at}
use Rattle.link_needs.specs.Needs.{is_address_kind}
use Rattle.loaded_modules.specs.declared.instance.Instance.{Instance}
use Rattle.object_faults.specs.declared.class.SectionClass.TheVariants.{Executable}
use Rattle.sequence_forms.specs.declared.places.Site.{Site}
use Rattle.thread_blocks.specs.Turns.{at_number}
use Rattle.whole_meaning.specs.declared.marks.Mark.{Mark}
use Rattle.whole_meaning.specs.declared.marks.Mark.TheVariants.{Usual, Offset, Address, Inside}
use Rattle.whole_meaning.specs.Bytes.{covers}
use Rattle.whole_meaning.specs.Code.{address_number, field_mark, is_in_site, mark_of, offset_number, relocated_mark}
use Rattle.whole_meaning.specs.Code.{site_mark, spot_mark}
use Rattle.whole_meaning.specs.Loads.{meaning_of}
use Rattle.whole_meaning.specs.Spots.{Spot, bias_of, moved_spot, spot_in}

module _ (l : Linking) (bias place : ℕ) where
  -- ** what stands at the place

  pub record IsAt (spot : Spot) : Type 0 where
    pub low : bias ≤ place
    pub stands : spot_in l Executable (place - bias) ≡ Some spot

  pub at_spot : (spot : Spot) → moved_spot l Executable bias place ≡ Some spot → IsAt spot
  at_spot spot e = of_test (nat_lt place bias) refl e
    where
      from : nat_lt place bias ≡ false → bias ≤ place
      from h = grind (arith, nat_tests)

      of_test : (t : Bool) → nat_lt place bias ≡ t
          → (if t then None else spot_in l Executable (place - bias)) ≡ Some spot → IsAt spot
      of_test true h e = absurd (cc)
      of_test false h e = record { low = from h; stands = e }

  -- and so it is the spot of the place
  pub spot_at_place : (spot : Spot) → IsAt spot → moved_spot l Executable bias place ≡ Some spot
  spot_at_place spot at = rw (not_below (at.low)) at.stands
    where
      not_below : bias ≤ place → nat_lt place bias ≡ false
      not_below h = grind (arith, nat_tests)

  -- ** a field

  pub record AtField (mark : Mark) : Type 0 where
    pub spot : Spot
    pub field : Relocation
    pub at : IsAt spot
    pub outside : find (is_in_site spot.section spot.within) (sites_at l spot.object) ≡ None
    pub found : find (covers spot.within) (relocations (object l spot.object) spot.section) ≡ Some field
    pub is : field_mark l bias spot.within field (binding l spot.object field) field.kind ≡ mark

  pub at_field : (mark : Mark) → mark_of l bias place ≡ mark → (mark ≡ Usual → ⊥) → (mark ≡ Inside → ⊥) → AtField mark
  unfolding mark_of
  at_field mark e other away = of_spot (moved_spot l Executable bias place) refl e
    where
      of_relocation : (spot : Spot) → IsAt spot
          → find (is_in_site spot.section spot.within) (sites_at l spot.object) ≡ None
          → (found : Option Relocation)
          → find (covers spot.within) (relocations (object l spot.object) spot.section) ≡ found
          → relocated_mark l bias spot.object spot.within found ≡ mark → AtField mark
      of_relocation spot at none None f e = absurd (other (sym e))
      of_relocation spot at none (Some r) f e =
          record { spot = spot; field = r; at = at; outside = none; found = f; is = e }

      of_site : (spot : Spot) → IsAt spot → (found : Option Site)
          → find (is_in_site spot.section spot.within) (sites_at l spot.object) ≡ found
          → site_mark l bias found (relocated_mark l bias spot.object spot.within
          (find (covers spot.within) (relocations (object l spot.object) spot.section))) ≡ mark → AtField mark
      of_site spot at None none e =
          of_relocation spot at none
          (find (covers spot.within) (relocations (object l spot.object) spot.section)) refl e
      of_site spot at (Some site) some e = absurd (away (sym e))

      of_spot : (found : Option Spot) → moved_spot l Executable bias place ≡ found → spot_mark l bias found ≡ mark
          → AtField mark
      of_spot None h e = absurd (other (sym e))
      of_spot (Some spot) h e =
          of_site spot (at_spot spot h) (find (is_in_site spot.section spot.within) (sites_at l spot.object)) refl e

  -- and such a field marks the place
  pub marked : (mark : Mark) → AtField mark → mark_of l bias place ≡ mark
  unfolding mark_of
  marked mark f = rw (spot_at_place f.spot f.at, f.outside, f.found) f.is

-- ** the types of fields

pub record IsOffset (l : Linking) (bias k : ℕ) (r : Relocation) (bound : Option Binding) (kind : RelocationKind)
    (number byte : ℕ) : Type 0 where
  pub kind_is : kind ≡ DtpOff32
  pub number_is : number ≡ offset_number l bias r bound
  pub byte_is : byte ≡ k - r.offset

pub is_offset : (l : Linking) (bias k : ℕ) (r : Relocation) (bound : Option Binding) (kind : RelocationKind)
    (number byte : ℕ) → field_mark l bias k r bound kind ≡ Offset number byte
    → IsOffset l bias k r bound kind number byte
is_offset l bias k r bound DtpOff32 number byte e = record { kind_is = refl; number_is = cc; byte_is = cc }
is_offset l bias k r bound kind number byte e = absurd (cc)

pub record IsAddress (l : Linking) (bias k : ℕ) (r : Relocation) (bound : Option Binding) (kind : RelocationKind)
    (number byte : ℕ) (addend : ℤ) : Type 0 where
  pub kind_is : is_address_kind kind ≡ true
  pub number_is : number ≡ address_number l bias r bound
  pub addend_is : addend ≡ r.addend
  pub byte_is : byte ≡ k - r.offset

pub is_address : (l : Linking) (bias k : ℕ) (r : Relocation) (bound : Option Binding) (kind : RelocationKind)
    (number byte : ℕ) (addend : ℤ) → field_mark l bias k r bound kind ≡ Address number addend byte
    → IsAddress l bias k r bound kind number byte addend
is_address l bias k r bound GotPcRel number byte addend e =
    record { kind_is = refl; number_is = cc; addend_is = cc; byte_is = cc }
is_address l bias k r bound GotPcRelX number byte addend e =
    record { kind_is = refl; number_is = cc; addend_is = cc; byte_is = cc }
is_address l bias k r bound RexGotPcRelX number byte addend e =
    record { kind_is = refl; number_is = cc; addend_is = cc; byte_is = cc }
is_address l bias k r bound kind number byte addend e = absurd (cc)

-- ** of an instance

pub mark_is : (ls : List Linking) (l : Linking) (x : Instance) (place : ℕ) → at_number ls x.image ≡ Some l
    → (meaning_of ls).mark x place ≡ mark_of l (bias_of l.kind x.number) place
unfolding meaning_of
mark_is ls l x place e = rw e refl
