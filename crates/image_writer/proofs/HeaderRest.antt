-- The headers behind DYNAMIC keep what is asked of them, and what each header tells lies in the file.
use Rattle.std.proofs.Common.{◌≡◌, ◌+◌, ◌-◌, ◌<◌, ℕ, List, Some, length, refl, sym, ap, subst, ◌∙◌, arith, inl, inr}
use Rattle.elf_records.specs.declared.program_header.Segment.{Segment}
use Rattle.image_faults.specs.Parts.{count, segment, behind_last_writable}
use Rattle.image_faults.specs.Segments.{HoldsInitialImage, IsRightTls, IsRightRelro, IsRightRest}
use Rattle.image_file.specs.declared.part.TlsPart.{TlsPart}
use Rattle.image_writer.specs.Outlined.{Outlined, part}
use Rattle.image_writer.specs.Page.{flags_of, tls_header, relro_header}
use Rattle.image_writer.specs.Loadable.{IsLoadable, IsRightTlsPart, HoldsInitial}
use Rattle.image_writer.proofs.HeaderReads.{AreRead, some_at, got_below}
use Rattle.image_writer.proofs.HeaderFinds.{IsTlsAt, IsRelroAt, behind, loads_read, last_read, flags_read}
use Rattle.image_writer.proofs.HeaderFinds.{relro_place_read, kind_of_tls, kind_of_relro}
use Rattle.image_writer.proofs.HeaderLoads.{vaddr_read, filesz_read, memsz_read, is_placed}

-- a constant part holds the initial image
initial_held : (f : List ℕ) (o : Outlined) (t : TlsPart) (i : ℕ) → AreRead f o → HoldsInitial o t i
    → HoldsInitialImage f (tls_header o.kind t) i
unfolding tls_header
initial_held f o t i read held =
    let below : i < length o.parts = omega (arith, held.0) in (
      rw (loads_read f o read) held.0,
      flags_read f o i read below ∙ ap flags_of held.1,
      vaddr_read f o i read below ∙ held.2,
      filesz_read f o i read below ∙ held.3,
    )

-- TLS
right_tls : (f : List ℕ) (o : Outlined) (t : TlsPart) → AreRead f o → IsRightTlsPart o t
    → IsRightTls f (tls_header o.kind t)
unfolding tls_header
right_tls f o t read right = (
  is_placed f o (tls_header o.kind t) t.address read refl refl right.placed,
  right.initial_in,
  right.filled,
  right.small,
  right.alignment,
  right.aligned,
  elim right.held [ inl none ↦ inl none | inr held ↦ inr (held.0, initial_held f o t held.0 read held.1) ],
)

-- TLS is right where it stands
tls_rest : (f : List ℕ) (o : Outlined) (i : ℕ) → AreRead f o → IsLoadable o → IsTlsAt (length o.parts) o.tls i
    → IsRightRest f i
tls_rest f o i read loadable at =
    let t = at.1.0 in
    let right = some_at o.tls (IsRightTlsPart o) t at.1.1 loadable.tls_is in
    let same : segment f i ≡ tls_header o.kind t = ap (segment f) at.0 ∙ read.tls_is t at.1.1 in
    let P : Segment → Type 0 = λ s. IsRightTls f s in
    inl (
      at.0 ∙ sym (ap (λ n. n + 1) (loads_read f o read)),
      ap (λ j. (segment f j).kind) at.0 ∙ kind_of_tls f o t read at.1.1,
      subst P (sym same) (right_tls f o t read right),
    )

-- GNU_RELRO
behind_got : (f : List ℕ) (o : Outlined) (g : ℕ) → AreRead f o → IsLoadable o → o.got ≡ Some g
    → behind_last_writable f ≡ g + 1
behind_got f o g read loadable is = last_read f o read ∙ loadable.got_is g is

-- GNU_RELRO says the last part that is written
right_relro : (f : List ℕ) (o : Outlined) (g : ℕ) → AreRead f o → IsLoadable o → o.got ≡ Some g
    → IsRightRelro f (relro_header o.kind (part o g))
unfolding relro_header
right_relro f o g read loadable is =
    let below = got_below o g loadable is in
    let right = loadable.parts g below in
    let found = behind_got f o g read loadable is in
    let at : behind_last_writable f - 1 ≡ g = omega arith in (
      is_placed f o (relro_header o.kind (part o g)) (part o g).address read refl refl (omega (arith, right.above)),
      omega arith,
      sym (ap (λ j. (segment f j).vaddr) at ∙ vaddr_read f o g read below),
      sym (ap (λ j. (segment f j).filesz) at ∙ filesz_read f o g read below),
      sym (ap (λ j. (segment f j).memsz) at ∙ memsz_read f o g read below),
    )

-- GNU_RELRO is right where it stands
relro_rest : (f : List ℕ) (o : Outlined) (i : ℕ) → AreRead f o → IsLoadable o → IsRelroAt (length o.parts) o.tls o.got i
    → IsRightRest f i
relro_rest f o i read loadable at =
    let g = at.1.0 in
    let same : segment f i ≡ relro_header o.kind (part o g) = ap (segment f) at.0 ∙ read.relro_is g at.1.1 in
    let P : Segment → Type 0 = λ s. IsRightRelro f s in
    inr (
      at.0 ∙ sym (relro_place_read f o read),
      ap (λ j. (segment f j).kind) at.0 ∙ kind_of_relro f o g read at.1.1,
      subst P (sym same) (right_relro f o g read loadable at.1.1),
    )

-- each header behind DYNAMIC
pub right_rest : (f : List ℕ) (o : Outlined) (i : ℕ) → AreRead f o → IsLoadable o → length o.parts < i → i < count f
    → IsRightRest f i
right_rest f o i read loadable above below =
    elim (behind (length o.parts) i o.tls o.got above (omega (arith, read.count_is))) [
      | inl tls ↦ tls_rest f o i read loadable tls
      | inr relro ↦ relro_rest f o i read loadable relro
    ]
