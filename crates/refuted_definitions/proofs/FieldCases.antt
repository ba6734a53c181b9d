-- The law fixes what is stored: a law over a wrong definition would make it the same, and here it is not.
use Rattle.std.proofs.Common.{◌≡◌, ◌^◌, ℕ, ℤ, pos, negsuc, Bool, true, false, Option, Some, ap, refl}
use Rattle.std.specs.Prelude.{◌==◌}
use Rattle.elf_records.specs.declared.relocation.RelocationKind.{RelocationKind}
use Rattle.elf_records.specs.declared.relocation.RelocationKind.TheVariants.{Absolute32, Absolute32Signed, GotTpOff}
use Rattle.elf_records.specs.declared.relocation.RelocationKind.TheVariants.{TpOff32}
use Rattle.elf_records.specs.Relocations.{relocation_kind}
use Rattle.tls_relocs.specs.declared.fields.Field.{Field}
use Rattle.tls_relocs.specs.declared.fields.Field.TheVariants.{Word32}
use Rattle.tls_relocs.specs.Values.{stored_field}
use Rattle.field_laws.specs.Laws.{FieldsAreStored, letters_of}
use Rattle.field_laws.specs.Table.{IsAnswer}
use Rattle.refuted_definitions.proofs.Only.{one_answer}
use Rattle.refuted_definitions.specs.Fields.{FieldsAreRefuted, FieldsAreStoredBy}

abbrev holds : ℕ → Option Field → Bool
holds n (Some (Word32 word)) = word == n
holds n field = false

module _ (law : FieldsAreStored) where
  same : (stored : RelocationKind → ℕ → ℤ → ℕ → ℕ → Option Field) → FieldsAreStoredBy relocation_kind stored
      → (number : ℕ) (kind : RelocationKind) → relocation_kind number ≡ Some kind → (s : ℕ) (a : ℤ) (p g : ℕ)
      → stored_field kind s a p g ≡ stored kind s a p g
  same stored wrong number kind is s a p g =
      one_answer (IsAnswer number (letters_of s a p g)) (stored_field kind s a p g) (stored kind s a p g)
      (law number kind is s a p g) (wrong number kind is s a p g)

  pub fields_refuted : FieldsAreRefuted
  fields_refuted = record {
    copy = λ kind s a p g. refl;
    one_more_fits_above = λ wrong.
        let e : false ≡ true = ap (holds 2147483648) (same _ wrong 11 Absolute32Signed refl (2 ^ 31) (pos 0) 0 0) in cc;
    one_more_fits_below = λ wrong.
        let e : false ≡ true = ap (holds 2147483647)
        (same _ wrong 11 Absolute32Signed refl 0 (negsuc (2 ^ 31)) 0 0) in cc;
    unsigned_has_a_sign = λ wrong.
        let e : true ≡ false = ap (holds 2147483648) (same _ wrong 10 Absolute32 refl (2 ^ 31) (pos 0) 0 0) in cc;
    negative_is_one_too_large = λ wrong.
        let e : true ≡ false = ap (holds 4294967295) (same _ wrong 11 Absolute32Signed refl 0 (negsuc 0) 0 0) in cc;
    entries_mean_symbols = λ wrong.
        let e : true ≡ false = ap (holds 2) (same _ wrong 22 GotTpOff refl 1 (pos 0) 0 2) in cc;
    thread_offsets_count_upwards = λ wrong.
        let e : true ≡ false = ap (holds 0) (same _ wrong 23 TpOff32 refl 4 (pos 0) 0 4) in cc;
    absolute_fields_have_a_sign = λ wrong.
        let e : true ≡ false = ap (holds 2147483648) (same _ wrong 10 Absolute32 refl (2 ^ 31) (pos 0) 0 0) in cc;
    initial_exec_is_local_exec = λ wrong.
        let e : true ≡ false = ap (holds 2) (one_answer (IsAnswer 22 (letters_of 1 (pos 0) 0 2))
        (stored_field GotTpOff 1 (pos 0) 0 2) (stored_field TpOff32 1 (pos 0) 0 2) (law 22 GotTpOff refl 1 (pos 0) 0 2)
        (wrong 22 TpOff32 refl 1 (pos 0) 0 2)) in cc;
  }
