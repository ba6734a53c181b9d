-- A byte of a field has the field's first byte before it, and that one is marked as the field's first.
use Rattle.std.proofs.Common.{◌≡◌, ◌∙◌, ◌+◌, ◌-◌, ◌≤◌, ℕ, ℤ, Option, Some, refl, sym, ap, arith}
use Rattle.memory_image.proofs.Placing.{section_stands}
use Rattle.elf_object.specs.declared.relocation.Relocation.{Relocation}
use Rattle.elf_object.specs.Laws.{class_in_table}
use Rattle.elf_object.specs.Lent.{relocations}
use Rattle.elf_records.specs.declared.relocation.RelocationKind.{RelocationKind}
use Rattle.elf_records.specs.declared.relocation.RelocationKind.TheVariants.{DtpOff32, GotPcRel, GotPcRelX}
use Rattle.elf_records.specs.declared.relocation.RelocationKind.TheVariants.{RexGotPcRelX}
use Rattle.link_core.specs.Faults.{Links}
use Rattle.link_core.specs.Laws.{HasNoStray}
use Rattle.link_faults.specs.declared.binding.Binding.{Binding}
use Rattle.link_needs.specs.Given.{IsGiven}
use Rattle.link_needs.specs.Linking.{Linking, binding, layout, object}
use Rattle.loaded_bytes.proofs.Finds.{IsFound, found_is}
use Rattle.loaded_bytes.proofs.Spots.{Standing, standing}
use Rattle.object_faults.specs.declared.class.SectionClass.TheVariants.{Executable}
use Rattle.sequence_match.specs.Sites.{Covers}
use Rattle.tied_fields.specs.Laws.{FieldsHaveTheirBeginning}
use Rattle.whole_meaning.specs.declared.marks.Mark.{Mark}
use Rattle.whole_meaning.specs.declared.marks.Mark.TheVariants.{Offset, Address}
use Rattle.whole_meaning.specs.Bytes.{covers}
use Rattle.whole_meaning.specs.Code.{address_number, field_mark, mark_of, offset_number}
use Rattle.whole_meaning.specs.Spots.{begin_of, bias_of, spot_in}
use Rattle.tied_fields.proofs.Fields.{covers_so, found_at, none_inside}
use Rattle.tied_fields.proofs.Marks.{AtField, at_field, is_address, is_offset, mark_is, marked}

module _ (l : Linking) (given : IsGiven l) (links : Links l) (stray : HasNoStray l) (bias at : ℕ) (mark : Mark)
    (f : AtField l bias at mark) where
  stands : Standing l Executable (at - bias) f.spot
  stands = standing l Executable (at - bias) f.spot f.at.stands

  found : IsFound (covers f.spot.within) (relocations (object l f.spot.object) f.spot.section) f.field
  found = found_is (covers f.spot.within) (relocations (object l f.spot.object) f.spot.section) f.field f.found

  inside : Covers f.field f.spot.within
  inside = covers_so f.spot.within f.field found.passes

  -- how far the byte is into its field
  abbrev pub far : ℕ
  far = f.spot.within - f.field.offset

  pub back : far ≤ at
  back = omega (arith, f.at.low, stands.within_is, stands.from)

  first : Covers f.field f.field.offset
  first = (omega arith, omega (arith, inside.0, inside.1))

  low : bias ≤ at - far
  low = omega (arith, f.at.low, stands.within_is, stands.from)

  spot_there : spot_in l Executable (at - far - bias)
      ≡ Some (record { object = f.spot.object; section = f.spot.section; within = f.field.offset })
  unfolding spot_in
  spot_there =
      let o = f.spot.object in
      let t = f.spot.section in
      let here : at - far - bias ≡ begin_of (layout l) o t + f.field.offset =
      omega (arith, f.at.low, stands.within_is, stands.from, inside.0) in
      let below = (class_in_table (object l o) t (rw stands.class_is refl)).1 in
      let spot = section_stands l.kind l.objects Executable tt o t (at - far - bias) stands.there below stands.class_is
      (omega (arith, here)) (omega (arith, here, stands.to, stands.within_is, stands.from, inside.0)) in
      let within : at - far - bias - begin_of (layout l) o t ≡ f.field.offset = omega (arith, here) in
      spot ∙ ap (λ n. Some (record { object = f.spot.object; section = f.spot.section; within = n })) within

  -- the field's first byte
  pub begins : AtField l bias (at - far)
      (field_mark l bias f.field.offset f.field (binding l f.spot.object f.field) f.field.kind)
  begins = record {
    spot = record { object = f.spot.object; section = f.spot.section; within = f.field.offset };
    field = f.field;
    at = record { low = low; stands = spot_there };
    outside = none_inside l given links stray f.spot.object f.spot.section f.spot.within stands.there f.field found.among
        inside f.outside f.field.offset first;
    found = found_at l given links stray f.spot.object f.spot.section f.spot.within stands.there f.field found.among
        inside f.outside f.field.offset first;
    is = refl;
  }

-- ** by types

no_byte : (n : ℕ) → n - n ≡ 0
no_byte n = omega arith

offset_first : (l : Linking) (bias k : ℕ) (r : Relocation) (bound : Option Binding) (kind : RelocationKind)
    (number byte : ℕ) → field_mark l bias k r bound kind ≡ Offset number byte
    → field_mark l bias r.offset r bound kind ≡ Offset number 0
offset_first l bias k r bound DtpOff32 number byte e =
    let same : number ≡ offset_number l bias r bound = cc in
    ap (Offset (offset_number l bias r bound)) (no_byte r.offset) ∙ ap (λ n. Offset n 0) (sym same)
offset_first l bias k r bound kind number byte e = absurd (cc)

again : (l : Linking) (bias k : ℕ) (r : Relocation) (bound : Option Binding) (number byte : ℕ) (addend : ℤ)
    → Address (address_number l bias r bound) r.addend (k - r.offset) ≡ Address number addend byte
    → Address (address_number l bias r bound) r.addend (r.offset - r.offset) ≡ Address number addend 0
again l bias k r bound number byte addend e =
    let same : number ≡ address_number l bias r bound = cc in
    let added : addend ≡ r.addend = cc in
    ap (Address (address_number l bias r bound) r.addend) (no_byte r.offset)
    ∙ ap (λ n. Address n r.addend 0) (sym same)
    ∙ ap (λ a. Address number a 0) (sym added)

address_first : (l : Linking) (bias k : ℕ) (r : Relocation) (bound : Option Binding) (kind : RelocationKind)
    (number byte : ℕ) (addend : ℤ) → field_mark l bias k r bound kind ≡ Address number addend byte
    → field_mark l bias r.offset r bound kind ≡ Address number addend 0
address_first l bias k r bound GotPcRel number byte addend e = again l bias k r bound number byte addend e
address_first l bias k r bound GotPcRelX number byte addend e = again l bias k r bound number byte addend e
address_first l bias k r bound RexGotPcRelX number byte addend e = again l bias k r bound number byte addend e
address_first l bias k r bound kind number byte addend e = absurd (cc)

-- the law
pub fields_begin : FieldsHaveTheirBeginning
fields_begin ls l x place is = record {
  offset = λ number byte mark.
      let here = sym (mark_is ls l x place is.image) ∙ mark in
      let f = at_field l (bias_of l.kind x.number) place (Offset number byte) here (λ e. cc) (λ e. cc) in
      let kind = is_offset l (bias_of l.kind x.number) f.spot.within f.field
      (binding l f.spot.object f.field) f.field.kind
      number byte f.is in
      let first = marked l (bias_of l.kind x.number) (place - (f.spot.within - f.field.offset)) _
      (begins l is.given is.links is.stray (bias_of l.kind x.number) place (Offset number byte) f) in
      let before = back l is.given is.links is.stray (bias_of l.kind x.number) place (Offset number byte) f in
      let far : place - byte ≡ place - (f.spot.within - f.field.offset) = omega (arith, kind.byte_is) in (
        omega (arith, before, kind.byte_is),
        mark_is ls l x (place - byte) is.image
            ∙ ap (mark_of l (bias_of l.kind x.number)) far
            ∙ first
            ∙ offset_first l (bias_of l.kind x.number) f.spot.within f.field
            (binding l f.spot.object f.field) f.field.kind
            number byte f.is,
      );
  address = λ number byte addend mark.
      let here = sym (mark_is ls l x place is.image) ∙ mark in
      let f = at_field l (bias_of l.kind x.number) place (Address number addend byte) here (λ e. cc) (λ e. cc) in
      let kind = is_address l (bias_of l.kind x.number) f.spot.within f.field
      (binding l f.spot.object f.field) f.field.kind
      number byte addend f.is in
      let first = marked l (bias_of l.kind x.number) (place - (f.spot.within - f.field.offset)) _
      (begins l is.given is.links is.stray (bias_of l.kind x.number) place (Address number addend byte) f) in
      let before = back l is.given is.links is.stray (bias_of l.kind x.number) place (Address number addend byte) f in
      let far : place - byte ≡ place - (f.spot.within - f.field.offset) = omega (arith, kind.byte_is) in (
        omega (arith, before, kind.byte_is),
        mark_is ls l x (place - byte) is.image
            ∙ ap (mark_of l (bias_of l.kind x.number)) far
            ∙ first
            ∙ address_first l (bias_of l.kind x.number) f.spot.within f.field (binding l f.spot.object f.field)
            f.field.kind number byte addend f.is,
      );
}
