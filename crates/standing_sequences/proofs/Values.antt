-- The values of fields: each that there is fits, and has as many bytes as its type says.
use Rattle.std.proofs.Common.{◌≡◌, ◌<◌, ◌^◌, ◌==◌, ◌∙◌, ℕ, ℤ, pos, Bool, true, false, List, []}
use Rattle.std.proofs.Common.{Option, Some, None, length, refl, sym, ap, arith, if◌then◌else◌}
use Rattle.std.specs.Prelude.{◌+ℤ◌, ◌-ℤ◌, nat_lt, slice_get}
use Rattle.std.specs.List.{Contains}
use Rattle.std.proofs.lemmas.Bool.Decides.{nat_tests}
use Rattle.elf_object.specs.declared.relocation.Relocation.{Relocation}
use Rattle.elf_object.specs.Laws.{table_of_kept}
use Rattle.elf_object.specs.Lent.{kept_relocation_table, relocation_target, relocations, relocations_in}
use Rattle.elf_object.specs.Relocations.{field_width}
use Rattle.elf_records.specs.declared.relocation.RelocationKind.{RelocationKind}
use Rattle.elf_records.specs.declared.relocation.RelocationKind.TheVariants.{Nothing, Absolute64, Pc32, Plt32}
use Rattle.elf_records.specs.declared.relocation.RelocationKind.TheVariants.{GotPcRel, Absolute32, Absolute32Signed}
use Rattle.elf_records.specs.declared.relocation.RelocationKind.TheVariants.{TlsGd, TlsLd, DtpOff32, GotTpOff}
use Rattle.elf_records.specs.declared.relocation.RelocationKind.TheVariants.{TpOff32}
use Rattle.elf_records.specs.declared.relocation.RelocationKind.TheVariants.{GotPc32TlsDesc, TlsDescCall, GotPcRelX}
use Rattle.elf_records.specs.declared.relocation.RelocationKind.TheVariants.{RexGotPcRelX}
use Rattle.elf_records.specs.Laws.{length-bytes_of}
use Rattle.link_needs.specs.Linking.{Linking, object}
use Rattle.link_needs.specs.Values.{field, is_replaced}
use Rattle.link_tables.specs.Faults.{Links}
use Rattle.object_faults.specs.Firsts.{nonzero}
use Rattle.sequence_match.proofs.Sections.{target_of_table}
use Rattle.tls_relocs.specs.declared.fields.Field.{Field}
use Rattle.tls_relocs.specs.declared.fields.Field.TheVariants.{Word32}
use Rattle.tls_relocs.specs.Fields.{field_bytes}
use Rattle.tls_relocs.specs.Values.{fits_signed, fits_unsigned, modulo, signed_field, stored_field, word32}
use Rattle.tls_symbols.specs.Faults.{held_for, held_in}
use Rattle.standing_sequences.proofs.Covering.{entry_of}

-- ** how long it is

abbrev IsExact : ℕ → Option Field → Type 0
IsExact n found = (value : Field) → found ≡ Some value → length (field_bytes value) ≡ n

of_wide : (n : ℕ) (own : Field) → length (field_bytes own) ≡ n → IsExact n (Some own)
of_wide n own long value e = let same : own ≡ value = cc in ap (λ v. length (field_bytes v)) (sym same) ∙ long

four_exact : (fits : Bool) (z : ℤ) → IsExact 4 (word32 fits z)
four_exact true z = of_wide 4 (Word32 (modulo (2 ^ 32) z)) (length-bytes_of 4 _)
four_exact false z = λ value e. absurd (cc)

signed_exact : (z : ℤ) → IsExact 4 (signed_field z)
signed_exact z = four_exact (fits_signed z) z

kind_exact : (kind : RelocationKind) (s : ℕ) (a : ℤ) (p g : ℕ) → IsExact (field_width kind) (stored_field kind s a p g)
kind_exact Nothing s a p g = of_wide 0 _ refl
kind_exact Absolute64 s a p g = of_wide 8 _ (length-bytes_of 8 _)
kind_exact Pc32 s a p g = signed_exact ((pos s +ℤ a) -ℤ pos p)
kind_exact Plt32 s a p g = signed_exact ((pos s +ℤ a) -ℤ pos p)
kind_exact GotPcRel s a p g = signed_exact ((pos g +ℤ a) -ℤ pos p)
kind_exact Absolute32 s a p g = four_exact (fits_unsigned (pos s +ℤ a)) (pos s +ℤ a)
kind_exact Absolute32Signed s a p g = signed_exact (pos s +ℤ a)
kind_exact TlsGd s a p g = signed_exact ((pos g +ℤ a) -ℤ pos p)
kind_exact TlsLd s a p g = signed_exact ((pos g +ℤ a) -ℤ pos p)
kind_exact DtpOff32 s a p g = signed_exact ((pos s +ℤ a) -ℤ pos g)
kind_exact GotTpOff s a p g = signed_exact ((pos g +ℤ a) -ℤ pos p)
kind_exact TpOff32 s a p g = signed_exact ((pos s +ℤ a) -ℤ pos g)
kind_exact GotPc32TlsDesc s a p g = signed_exact ((pos g +ℤ a) -ℤ pos p)
kind_exact TlsDescCall s a p g = of_wide 0 _ refl
kind_exact GotPcRelX s a p g = signed_exact ((pos g +ℤ a) -ℤ pos p)
kind_exact RexGotPcRelX s a p g = signed_exact ((pos g +ℤ a) -ℤ pos p)

pub field_long : (l : Linking) (o t : ℕ) (r : Relocation) (value : Field) → field l o t r ≡ Some value
    → length (field_bytes value) ≡ field_width r.kind
unfolding field
field_long l o t r value e = kind_exact r.kind _ r.addend _ _ value e

-- ** that of an object's own relocation

-- a section's relocations are held by its table
held_is : (b : List ℕ) (s t : ℕ) → relocation_target b s ≡ t → 0 < t → held_in b s ≡ relocations b t
unfolding held_in
held_is b s t e some = ap (λ i. held_for b (nonzero i)) e ∙ ap (held_for b) (of_test (t == 0) (test t some))
  where
    test : (n : ℕ) → 0 < n → (n == 0) ≡ false
    test n some = grind (arith, nat_tests)

    of_test : (x : Bool) → x ≡ false → (if x then None else Some t) ≡ Some t
    of_test true e = absurd (cc)
    of_test false e = refl

has_table : (b : List ℕ) (t : ℕ) (r : Relocation) → Contains (relocations b t) r → 0 < kept_relocation_table b t
unfolding relocations_in
has_table b t r has = of_table (kept_relocation_table b t) has
  where
    test : (n : ℕ) → nat_lt 0 n ≡ true → 0 < n
    test n e = grind (arith, nat_tests)

    of_test : (n : ℕ) (x : Bool) (xs : List Relocation) → nat_lt 0 n ≡ x → Contains (if x then xs else []) r → 0 < n
    of_test n true xs e has = test n e
    of_test n false xs e has = absurd (omega (arith, has.1))

    of_table : (n : ℕ) → Contains (relocations_in b n) r → 0 < n
    of_table n has = of_test n (nat_lt 0 n) _ refl has

pub own_value : (l : Linking) → Links l → (o t : ℕ) (r : Relocation) → o < length l.objects → 0 < t
    → Contains (relocations (object l o) t) r → is_replaced l o r ≡ false
    → (value : Field) × (field l o t r ≡ Some value)
own_value l links o t r there some has stays = of_value (field l o t r) refl
  where
    s : ℕ
    s = kept_relocation_table (object l o) t

    table : 0 < kept_relocation_table (object l o) t
    table = has_table (object l o) t r has

    none : field l o t r ≡ None → ⊥
    none e =
        let target = target_of_table (object l o) t table in
        let entry : slice_get (held_in (object l o) s) has.0 ≡ Some r =
        ap (λ xs. slice_get xs has.0) (held_is (object l o) s t target some)
        ∙ entry_of (relocations (object l o) t) r has in
        links.fits o s has.0
        (there, table, (table_of_kept (object l o) t table).1.0.1, rw (entry, target, e) (stays, refl))

    of_value : (found : Option Field) → field l o t r ≡ found → (value : Field) × (field l o t r ≡ Some value)
    of_value None e = absurd (none e)
    of_value (Some value) e = (value, e)
