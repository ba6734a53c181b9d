-- The headers that a page leads keep what is asked of them: each LOAD, and DYNAMIC.
use Rattle.std.proofs.Common.{◌≡◌, ◌≢◌, ◌+◌, ◌-◌, ◌^◌, ◌<◌, ◌≤◌, ◌⊎◌, ℕ, true, List, length, refl, sym, ap, ◌∙◌, arith}
use Rattle.std.proofs.Common.{inl, inr}
use Rattle.std.proofs.lemmas.Bool.{cases_eq}
use Rattle.elf_records.specs.declared.program_header.Segment.{Segment}
use Rattle.elf_records.specs.declared.program_header.TheConstants.{PF_X, PF_R, PF_W}
use Rattle.image_rules.specs.declared.places.FileKind.{FileKind}
use Rattle.image_faults.specs.Parts.{segment, base, last}
use Rattle.image_faults.specs.Segments.{IsPlaced, IsInRange, IsOfFewWritten, IsLastConstant, IsRightLoad}
use Rattle.image_faults.specs.Segments.{IsRightDynamic}
use Rattle.image_file.specs.declared.part.PartClass.{PartClass}
use Rattle.image_file.specs.declared.part.PartClass.TheVariants.{Executable, ReadOnly, Writable}
use Rattle.image_writer.specs.declared.outline.PartPlace.{PartPlace}
use Rattle.image_writer.specs.Outlined.{Outlined, part, last_part}
use Rattle.image_writer.specs.Page.{base_of, file_offset, flags_of, load_header, dynamic_header}
use Rattle.image_writer.specs.Loadable.{IsLoadable, is_written}
use Rattle.image_file.specs.Spelled.{is_writable}
use Rattle.image_writer.proofs.HeaderCounts.{many_below}
use Rattle.image_writer.proofs.HeaderReads.{AreRead}
use Rattle.image_writer.proofs.HeaderFinds.{base_read, loads_read, flags_read, has_relro_read, many_read}
use Rattle.image_writer.proofs.HeaderFinds.{kind_of_dynamic}

-- the numbers of a LOAD
load_offset : (k : FileKind) (p : PartPlace) → (load_header k p).offset ≡ file_offset k p.address
unfolding load_header
load_offset k p = refl

-- its address
load_vaddr : (k : FileKind) (p : PartPlace) → (load_header k p).vaddr ≡ p.address
unfolding load_header
load_vaddr k p = refl

-- its bytes in the file
load_filesz : (k : FileKind) (p : PartPlace) → (load_header k p).filesz ≡ p.size
unfolding load_header
load_filesz k p = refl

-- its bytes in memory
load_memsz : (k : FileKind) (p : PartPlace) → (load_header k p).memsz ≡ p.size
unfolding load_header
load_memsz k p = refl

-- in the file: where the bytes of part i stand
pub offset_read : (f : List ℕ) (o : Outlined) (i : ℕ) → AreRead f o → i < length o.parts
    → (segment f i).offset ≡ file_offset o.kind (part o i).address
offset_read f o i read below = ap (λ s. s.offset) (read.load_is i below) ∙ load_offset o.kind (part o i)

-- the address of part i
pub vaddr_read : (f : List ℕ) (o : Outlined) (i : ℕ) → AreRead f o → i < length o.parts
    → (segment f i).vaddr ≡ (part o i).address
vaddr_read f o i read below = ap (λ s. s.vaddr) (read.load_is i below) ∙ load_vaddr o.kind (part o i)

-- how many bytes part i has in the file
pub filesz_read : (f : List ℕ) (o : Outlined) (i : ℕ) → AreRead f o → i < length o.parts
    → (segment f i).filesz ≡ (part o i).size
filesz_read f o i read below = ap (λ s. s.filesz) (read.load_is i below) ∙ load_filesz o.kind (part o i)

-- how many it has in memory
pub memsz_read : (f : List ℕ) (o : Outlined) (i : ℕ) → AreRead f o → i < length o.parts
    → (segment f i).memsz ≡ (part o i).size
memsz_read f o i read below = ap (λ s. s.memsz) (read.load_is i below) ∙ load_memsz o.kind (part o i)

-- the numbers of the last LOAD
pub last_vaddr_read : (f : List ℕ) (o : Outlined) → AreRead f o → IsLoadable o → (last f).vaddr ≡ (last_part o).address
last_vaddr_read f o read loadable =
    rw (loads_read f o read) (vaddr_read f o (length o.parts - 1) read (omega (arith, loadable.some)))

-- how many bytes the last LOAD has
pub last_filesz_read : (f : List ℕ) (o : Outlined) → AreRead f o → IsLoadable o → (last f).filesz ≡ (last_part o).size
last_filesz_read f o read loadable =
    rw (loads_read f o read) (filesz_read f o (length o.parts - 1) read (omega (arith, loadable.some)))

-- the numbers of DYNAMIC
dynamic_numbers : (o : Outlined)
    → ((dynamic_header o).offset ≡ file_offset o.kind (last_part o).address)
    × ((dynamic_header o).vaddr ≡ (last_part o).address)
    × ((dynamic_header o).filesz ≡ o.array_size)
unfolding dynamic_header
dynamic_numbers o = (refl, refl, refl)

-- an address that is not below the base stands at its offset
placed : (a offset b k : ℕ) → offset ≡ a + 4096 - k → b ≡ k → k ≤ a + 4096 → a + 4096 ≡ offset + b
placed a offset b k at is above = omega arith

-- so it is of a header whose offset goes by its address
pub is_placed : (f : List ℕ) (o : Outlined) (s : Segment) (a : ℕ) → AreRead f o → s.vaddr ≡ a
    → s.offset ≡ file_offset o.kind a → base_of o.kind ≤ a + 4096
    → IsPlaced f s
is_placed f o s a read address offset above =
    let same = base_read f o read in
    rw address (placed a s.offset (base f) (base_of o.kind) offset same above)

-- the class of a part
class_flags : (c : PartClass) (n : ℕ) → n ≡ flags_of c → (n ≡ PF_X) ⊎ (n ≡ PF_R) ⊎ (n ≡ PF_R + PF_W)
class_flags Executable n is = inl is
class_flags ReadOnly n is = inr (inl is)
class_flags Writable n is = inr (inr is)

-- the range of a part
in_range : (f : List ℕ) (o : Outlined) (i : ℕ) → AreRead f o → IsLoadable o → i < length o.parts → IsInRange f i
in_range f o i read loadable below =
    let right = loadable.parts i below in
    let same = base_read f o read in
    let address = vaddr_read f o i read below in
    let size = memsz_read f o i read below in
    let from : base f ≤ (segment f i).vaddr = rw (same, address) right.above in
    let to : (segment f i).vaddr + (segment f i).memsz ≤ base f + 2 ^ 26 = rw (same, address, size) right.below in (
      from,
      to,
      elim right.rising [
        | inl first ↦ inl first
        | inr behind ↦
            let before : i - 1 < length o.parts = omega arith in
            inr (rw (vaddr_read f o (i - 1) read before, memsz_read f o (i - 1) read before, address) behind)
      ],
    )

-- the parts that are written are few
writable_flags : (c : PartClass) (n : ℕ) → n ≡ flags_of c → (is_writable c ≡ true) ⊎ (n ≢ PF_R + PF_W)
writable_flags Executable n is = inr (λ e. omega arith)
writable_flags ReadOnly n is = inr (λ e. omega arith)
writable_flags Writable n is = inl refl

-- those before part i leave room for it, if it is written
few_written : (f : List ℕ) (o : Outlined) (i : ℕ) → AreRead f o → IsLoadable o → i < length o.parts → IsOfFewWritten f i
few_written f o i read loadable below =
    elim (writable_flags (part o i).class (segment f i).flags (flags_read f o i read below)) [
      | inl passes ↦
          let more = many_below (is_written o) i (length o.parts) below passes in
          let few = loadable.few_written in
          inr (rw (many_read f o i read (omega arith), has_relro_read f o read) (omega arith))
      | inr fails ↦ inl fails
    ]

-- the last part is constant
last_constant : (f : List ℕ) (o : Outlined) (i : ℕ) → AreRead f o → IsLoadable o → i < length o.parts
    → IsLastConstant f i
last_constant f o i read loadable below = elim (cases_eq (i + 1) (length o.parts)) [
  | inl is ↦
      let at : i ≡ length o.parts - 1 = omega arith in
      let class : (part o i).class ≡ ReadOnly = rw at loadable.last_constant in
      inr (flags_read f o i read below ∙ ap flags_of class)
  | inr not ↦ inl (λ e. not (e ∙ loads_read f o read))
]

-- LOAD i is right
pub right_load : (f : List ℕ) (o : Outlined) (i : ℕ) → AreRead f o → IsLoadable o → i < length o.parts → IsRightLoad f i
right_load f o i read loadable below =
    let right = loadable.parts i below in (
      is_placed f o (segment f i) (part o i).address read (vaddr_read f o i read below) (offset_read f o i read below)
          (omega (arith, right.above)),
      class_flags (part o i).class (segment f i).flags (flags_read f o i read below),
      (
        filesz_read f o i read below ∙ sym (memsz_read f o i read below),
        rw (memsz_read f o i read below) right.filled,
        rw (vaddr_read f o i read below) right.paged,
      ),
      in_range f o i read loadable below,
      few_written f o i read loadable below,
      last_constant f o i read loadable below,
    )

-- DYNAMIC
pub right_dynamic : (f : List ℕ) (o : Outlined) (i : ℕ) → AreRead f o → IsLoadable o → i ≡ length o.parts
    → IsRightDynamic f i
right_dynamic f o i read loadable is =
    let told = dynamic_numbers o in
    let same : segment f i ≡ dynamic_header o = ap (segment f) is ∙ read.dynamic_is in
    let address : (segment f i).vaddr ≡ (last_part o).address = ap (λ s. s.vaddr) same ∙ told.1 in
    let offset : (segment f i).offset ≡ file_offset o.kind (last_part o).address = ap (λ s. s.offset) same ∙ told.0 in
    let size : (segment f i).filesz ≡ o.array_size = ap (λ s. s.filesz) same ∙ told.2 in
    let right = loadable.parts (length o.parts - 1) (omega (arith, loadable.some)) in (
      omega (arith, loadable.some),
      omega (arith, read.count_is),
      ap (λ j. (segment f j).kind) is ∙ kind_of_dynamic f o read,
      is_placed f o (segment f i) (last_part o).address read address offset (omega (arith, right.above)),
      address ∙ sym (last_vaddr_read f o read loadable),
      rw (size, last_filesz_read f o read loadable) loadable.array_in,
    )
