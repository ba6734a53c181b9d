-- What one relocation writes.
use Rattle.std.proofs.Common.{◌≡◌, ◌≢◌, ◌<◌, ◌∙◌, ◌&&◌, ℕ, Bool, true, false, List, [], ◌∷◌, Some, None, length}
use Rattle.std.proofs.Common.{refl, sym, ap, subst, arith}
use Rattle.std.specs.List.{Contains}
use Rattle.std.proofs.lemmas.List.Elements.{All-contains}
use Rattle.elf_records.specs.declared.relocation.RelocationKind.{RelocationKind}
use Rattle.elf_records.specs.declared.relocation.RelocationKind.TheVariants.{Nothing}
use Rattle.elf_object.specs.declared.relocation.Relocation.{Relocation}
use Rattle.elf_object.specs.Lawful.{IsLawful}
use Rattle.elf_object.specs.LawsOfRelocations.{lawful as relocations_lawful}
use Rattle.elf_object.specs.Lent.{relocations}
use Rattle.elf_object.specs.Parts.{symbol_count}
use Rattle.tls_relocs.specs.declared.fields.Field.{Field}
use Rattle.tls_relocs.specs.declared.fields.Field.TheVariants.{Empty}
use Rattle.tls_relocs.specs.FieldLaws.{field_patch}
use Rattle.tls_relocs.specs.Patches.{patched}
use Rattle.tls_relocs.specs.Values.{stored_field}
use Rattle.link_needs.specs.declared.symbol_values.SymbolValue.{SymbolValue}
use Rattle.link_needs.specs.Linking.{Linking, binding, object, place}
use Rattle.link_core.specs.Bytes.{with_field}
use Rattle.link_needs.specs.Given.{IsGiven}
use Rattle.link_needs.specs.Plans.{goes_by, value_of}
use Rattle.link_tables.specs.Faults.{IsOverflow}
use Rattle.link_tables.specs.FaultLaws.{IsFilled}
use Rattle.link_needs.specs.Values.{field, is_replaced, is_rewriting, other_number, own_number}
use Rattle.link_core.proofs.LengthsInside.{is_object}
use Rattle.link_needs.proofs.ValueLemmas.{takes_part}
use Rattle.link_core.proofs.WritingRoom.{patched_nothing}

-- a relocation that does something names a symbol of its object
pub names_symbol : (l : Linking) (o t : ℕ) (r : Relocation) → IsGiven l → o < length l.objects
    → Contains (relocations (object l o) t) r → r.kind ≢ Nothing → r.symbol < symbol_count (object l o)
names_symbol l o t r given there is some =
    let b = object l o in
    let whole = is_object l o given there in
    ((All-contains (IsLawful b t) (relocations b t) r (relocations_lawful b whole t) is).symbol some).1

module _ (l : Linking) (o t : ℕ) (r : Relocation) where
  pub replaced_as : (symbol : SymbolValue) → symbol ≡ value_of l o r.symbol
      → is_replaced l o r ≡ (is_rewriting l && goes_by symbol r.kind)
  unfolding is_replaced
  replaced_as symbol e =
      ap (λ b. is_rewriting l && b) (sym (takes_part l o r)) ∙ ap (λ x. is_rewriting l && goes_by x r.kind) (sym e)

  -- one that goes with its sequence writes nothing
  pub replaced_writes : (bytes : List ℕ) → is_replaced l o r ≡ true → bytes ≡ with_field l o t bytes r
  replaced_writes bytes e = rw e refl

  pub replaced_fills : is_replaced l o r ≡ true → IsFilled l o t r
  replaced_fills e wrong = let no = wrong.0 in cc

  -- one with a field writes it
  pub field_writes : (bytes : List ℕ) (value : Field) → is_replaced l o r ≡ false → Some value ≡ field l o t r
      → patched (field_patch r.offset value ∷ []) bytes ≡ with_field l o t bytes r
  field_writes bytes value e is = rw (e, ← is) refl

  -- one whose field does not hold its value writes nothing
  pub unfit_writes : (bytes : List ℕ) → is_replaced l o r ≡ false → None ≡ field l o t r
      → bytes ≡ with_field l o t bytes r
  unfit_writes bytes e is = rw (e, ← is) (sym (patched_nothing r.offset Empty bytes (omega arith)))

  pub field_fills : (value : Field) → Some value ≡ field l o t r → IsFilled l o t r
  field_fills value is wrong =
      let none = rw (← is) at wrong.1 in
      let bad : true ≡ false = none in cc

  -- one with none does not fit
  pub field_overflows : is_replaced l o r ≡ false → None ≡ field l o t r → IsOverflow l o t r
  field_overflows e is = (e, rw (← is) refl)

  -- one of no type has none
  none_of : r.kind ≡ Nothing → Some Empty ≡ field l o t r
  unfolding field
  none_of e =
      let P : RelocationKind → Type 0 = λ k.
      Some Empty
      ≡ stored_field k (own_number l k (binding l o r)) r.addend (place l o t r.offset) (other_number l o r k) in
      subst P (sym e) refl

  pub nothing_writes : (bytes : List ℕ) → r.kind ≡ Nothing → bytes ≡ with_field l o t bytes r
  nothing_writes bytes e = of_test (is_replaced l o r) refl
    where
      of_test : (b : Bool) → is_replaced l o r ≡ b → bytes ≡ with_field l o t bytes r
      of_test true is = replaced_writes bytes is
      of_test false is =
          sym (patched_nothing r.offset Empty bytes (omega arith)) ∙ field_writes bytes Empty is (none_of e)

  pub nothing_fills : r.kind ≡ Nothing → IsFilled l o t r
  nothing_fills e = field_fills Empty (none_of e)
