-- The bytes that each header tells lie in the file, if those of the last part do.
use Rattle.std.proofs.Common.{◌≡◌, ◌+◌, ◌-◌, ◌<◌, ◌≤◌, ◌⊎◌, ℕ, zero, suc, List, length, sym, ap, subst, ◌∙◌, arith, inl}
use Rattle.std.proofs.Common.{inr}
use Rattle.elf_records.specs.declared.program_header.Segment.{Segment}
use Rattle.image_faults.specs.Parts.{count, segment}
use Rattle.image_faults.specs.Segments.{PassesEnd}
use Rattle.image_file.specs.declared.part.TlsPart.{TlsPart}
use Rattle.image_writer.specs.Outlined.{Outlined, part, last_part, end_of}
use Rattle.image_writer.specs.Page.{base_of, file_offset, load_header, dynamic_header, tls_header, relro_header}
use Rattle.image_writer.specs.Loadable.{IsLoadable, HoldsTls, IsRightTlsPart}
use Rattle.image_writer.proofs.HeaderReads.{AreRead, some_at, got_below}
use Rattle.image_writer.proofs.HeaderFinds.{which}

-- parts end at rising addresses
same_or_below : (i j : ℕ) → i ≤ suc j → (i ≤ j) ⊎ (i ≡ suc j)
same_or_below i j h = grind arith

-- no part ends further than one behind it
pub rises : (o : Outlined) (i j : ℕ) → IsLoadable o → i ≤ j → j < length o.parts → end_of (part o i) ≤ end_of (part o j)
rises o i zero loadable within below = let same : i ≡ 0 = omega arith in rw same (omega arith)
rises o i (suc j) loadable within below = elim (same_or_below i j within) [
  | inl less ↦
      let earlier = rises o i j loadable less (omega arith) in
      let back : suc j - 1 ≡ j = omega arith in
      elim (loadable.parts (suc j) below).rising [
        | inl first ↦ absurd (omega arith)
        | inr behind ↦
            let P : ℕ → Type 0 = λ k. end_of (part o k) ≤ (part o (suc j)).address in
            let next : end_of (part o j) ≤ (part o (suc j)).address = subst P back behind in
            omega arith
      ]
  | inr same ↦ rw same (omega arith)
]

-- no part ends behind the last
pub ends_within : (o : Outlined) (i : ℕ) → IsLoadable o → i < length o.parts → end_of (part o i) ≤ end_of (last_part o)
ends_within o i loadable below = rises o i (length o.parts - 1) loadable (omega arith) (omega arith)

-- bytes that end no further than others do in the file
inside : (k a n e whole : ℕ) → e + 4096 - k ≤ whole → a + n ≤ e → k ≤ a + 4096 → a + 4096 - k + n ≤ whole
inside k a n e whole long within above = omega arith

-- the bytes of a header lie in the file
abbrev pub IsInside : List ℕ → Segment → Type 0
IsInside f s = s.offset + s.filesz ≤ length f

-- those of a LOAD
load_inside : (f : List ℕ) (o : Outlined) (i : ℕ) → IsLoadable o → file_offset o.kind (end_of (last_part o)) ≤ length f
    → i < length o.parts
    → IsInside f (load_header o.kind (part o i))
unfolding load_header
load_inside f o i loadable long below =
    let right = loadable.parts i below in
    inside (base_of o.kind) (part o i).address (part o i).size (end_of (last_part o)) (length f) long
    (ends_within o i loadable below) (omega (arith, right.above))

-- those of GNU_RELRO
relro_inside : (f : List ℕ) (o : Outlined) (i : ℕ) → IsLoadable o → file_offset o.kind (end_of (last_part o)) ≤ length f
    → i < length o.parts
    → IsInside f (relro_header o.kind (part o i))
unfolding relro_header
relro_inside f o i loadable long below =
    let right = loadable.parts i below in
    inside (base_of o.kind) (part o i).address (part o i).size (end_of (last_part o)) (length f) long
    (ends_within o i loadable below) (omega (arith, right.above))

-- those of DYNAMIC
dynamic_inside : (f : List ℕ) (o : Outlined) → IsLoadable o → file_offset o.kind (end_of (last_part o)) ≤ length f
    → IsInside f (dynamic_header o)
unfolding dynamic_header
dynamic_inside f o loadable long =
    let right = loadable.parts (length o.parts - 1) (omega (arith, loadable.some)) in
    let within = loadable.array_in in
    inside (base_of o.kind) (last_part o).address o.array_size (end_of (last_part o)) (length f) long (omega arith)
    (omega (arith, right.above))

-- those of the initial image
tls_inside : (f : List ℕ) (o : Outlined) (t : TlsPart) → IsLoadable o
    → file_offset o.kind (end_of (last_part o)) ≤ length f → IsRightTlsPart o t
    → t.address ≤ end_of (last_part o) → IsInside f (tls_header o.kind t)
unfolding tls_header
tls_inside f o t loadable long right near =
    let ends : t.address + t.initial ≤ end_of (last_part o) = elim right.held [
      | inl none ↦ omega arith
      | inr held ↦
          let within = ends_within o held.0 loadable (omega (arith, held.1.0)) in
          let address = held.1.2 in
          let size = held.1.3 in
          omega arith
    ] in
    inside (base_of o.kind) t.address t.initial (end_of (last_part o)) (length f) long ends right.placed

-- those of each header of the table
pub segment_inside : (f : List ℕ) (o : Outlined) (i : ℕ) → AreRead f o → IsLoadable o → HoldsTls o
    → file_offset o.kind (end_of (last_part o)) ≤ length f → i < count f → IsInside f (segment f i)
segment_inside f o i read loadable holds long below =
    let P : Segment → Type 0 = λ s. IsInside f s in
    elim (which (length o.parts) i o.tls o.got (omega (arith, read.count_is))) [
      | inl lt ↦ subst P (sym (read.load_is i lt)) (load_inside f o i loadable long lt)
      | inr more ↦ elim more [
        | inl is ↦ subst P (sym (ap (segment f) is ∙ read.dynamic_is)) (dynamic_inside f o loadable long)
        | inr rest ↦ elim rest [
          | inl tls ↦
              let t = tls.1.0 in
              let right = some_at o.tls (IsRightTlsPart o) t tls.1.1 loadable.tls_is in
              let near = some_at o.tls (λ s. s.address ≤ end_of (last_part o)) t tls.1.1 holds in
              subst P (sym (ap (segment f) tls.0 ∙ read.tls_is t tls.1.1)) (tls_inside f o t loadable long right near)
          | inr relro ↦
              let g = relro.1.0 in
              subst P (sym (ap (segment f) relro.0 ∙ read.relro_is g relro.1.1))
              (relro_inside f o g loadable long (got_below o g loadable relro.1.1))
        ]
      ]
    ]

-- nothing that the headers tell passes the end of the file
pub passes_nowhere : (f : List ℕ) (o : Outlined) → AreRead f o → IsLoadable o → HoldsTls o
    → file_offset o.kind (end_of (last_part o)) ≤ length f
    → PassesEnd f → ⊥
passes_nowhere f o read loadable holds long passes = elim passes [
  | inl short ↦ omega (arith, read.few, read.long)
  | inr past ↦ omega (arith, past.1.1, segment_inside f o past.0 read loadable holds long past.1.0)
]
