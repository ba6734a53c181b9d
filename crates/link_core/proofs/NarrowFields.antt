-- A field whose relocation has a narrow addend holds its value.
use Rattle.std.proofs.Common.{◌≡◌, ◌<◌, ℕ, List, false, length, ap, subst}
use Rattle.std.specs.List.{Contains}
use Rattle.elf_records.specs.RelocationRows.{row}
use Rattle.elf_object.specs.declared.relocation.Relocation.{Relocation}
use Rattle.elf_object.specs.Lent.{relocations}
use Rattle.elf_object.specs.LawsOfNotes.{each_fails, every_relocation}
use Rattle.elf_object.specs.Noted.{all_relocations, has_far_addend, traits_of}
use Rattle.link_needs.specs.Given.{IsGiven}
use Rattle.link_needs.specs.Linking.{Linking, binding, object, place}
use Rattle.link_needs.specs.Values.{field, other_number, own_number}
use Rattle.link_tables.specs.Faults.{IsOverflow, IsSound}
use Rattle.tls_symbols.specs.declared.uses.Use.{Use}
use Rattle.tls_symbols.specs.Searches.{IsUseIn}
use Rattle.link_core.proofs.Few.{table_fits}
use Rattle.link_core.proofs.NarrowNumbers.{numbers_small}
use Rattle.link_core.proofs.NarrowSums.{narrow_fits, unsigned_address}

pub narrow_fields_fit : (l : Linking) (o t : ℕ) (r : Relocation) → IsGiven l → IsSound l → o < length l.objects
    → Contains (relocations (object l o) t) r → has_far_addend r ≡ false → IsOverflow l o t r → ⊥
unfolding field
narrow_fields_fit l o t r given sound there has narrow over =
    narrow_fits (row r.kind).form (row r.kind).value (own_number l r.kind (binding l o r)) r.addend
    (place l o t r.offset) (other_number l o r r.kind) (unsigned_address r.kind)
    (λ some. numbers_small l given (table_fits l given sound.limits) o t r there has
    (λ e. some (ap (λ kind. (row kind).form) e))) narrow over.1

-- so no field overflows in an object whose addends are all narrow
pub narrow_object_fits : (l : Linking) (o : ℕ) (b : List ℕ) → IsGiven l → IsSound l → o < length l.objects
    → b ≡ object l o → (traits_of (all_relocations b)).is_wide ≡ false → (u : Use) → IsUseIn o b u
    → IsOverflow l u.place.object u.section u.relocation → ⊥
unfolding traits_of
narrow_object_fits l o b given sound there here narrow u is over =
    let r = u.relocation in
    let own = every_relocation b u.section r is.own in
    narrow_fields_fit l o u.section r given sound there
    (subst (λ b. Contains (relocations b u.section) r) here is.own)
    (each_fails has_far_addend (all_relocations b) r narrow own)
    (subst (λ o. IsOverflow l o u.section r) is.object over)
