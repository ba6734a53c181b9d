-- How large the parts of objects and images may be, in literals. It watches `IsAlignment` (elf_records), `TooLarge`
-- (object_faults), `Segments` (image_faults), `IsOrdinary` and `IsLawful` (tls_layout), `Modules` and `History`
-- (module_table), `IsCrowded` (link_tables) and `fetch_of` (guest_operands).
use Rattle.std.specs.Prelude.{◌≡◌, ◌⊎◌, ◌↔◌, ◌+◌, ◌<◌, ◌≤◌, ℕ, true, List, Option, length}
use Rattle.std.specs.List.{All, AllPairs}
use Rattle.elf_records.specs.Alignments.{IsAlignment}
use Rattle.elf_object.specs.Counts.{relocation_count}
use Rattle.dynamic_symbols.specs.Names.{name_size}
use Rattle.guest_arithmetic.specs.Plain.{plain_operations}
use Rattle.guest_operands.specs.Access.{code_at, fetch_of}
use Rattle.guest_operands.specs.Ranges.{AddressSpace}
use Rattle.guest_operands.specs.RangeLaws.{range_accesses}
use Rattle.image_faults.specs.Parts.{base, segment}
use Rattle.image_faults.specs.Segments.{IsInRange, IsRightTls}
use Rattle.elf_records.specs.declared.program_header.Segment.{Segment}
use Rattle.link_needs.specs.Linking.{Linking}
use Rattle.link_tables.specs.Dynamic.{imports, own_symbols}
use Rattle.link_tables.specs.Faults.{IsCrowded}
use Rattle.module_table.specs.declared.events.Event.{Event}
use Rattle.module_table.specs.declared.modules.ImageInfo.{ImageInfo}
use Rattle.module_table.specs.declared.TheConstants.{MOST_INSTANCES, SURPLUS}
use Rattle.module_table.specs.Past.{IsLegal}
use Rattle.module_table.specs.Modules.{AreInfos, IsInfo}
use Rattle.module_table.specs.Past.{is_legal, start}
use Rattle.object_faults.specs.declared.class.SectionClass.{SectionClass}
use Rattle.object_rules.specs.declared.fault.FaultKind.TheVariants.{TooLarge}
use Rattle.object_faults.specs.Classes.{IsKeptSection}
use Rattle.object_faults.specs.Faults.{Stands}
use Rattle.object_faults.specs.Parts.{IsTable, section}
use Rattle.tls_layout.specs.Places.{IsLawful, span, tls_size}
use Rattle.tls_layout.specs.Sections.{IsOrdinary, Layout}

-- ** objects

pub record ObjectsAreSmall : Type 0 where
  -- the greatest alignment is a page
  pub page : IsAlignment 4096
  pub no_more : (n : ℕ) → IsAlignment n → n ≤ 4096
  -- a section that linking keeps has 1,048,576 bytes at most
  pub long_section : (bytes : List ℕ) (s : ℕ) → IsKeptSection bytes s → 1048576 < (section bytes s).size
      → Stands TooLarge bytes s 0
  pub short_section : (bytes : List ℕ) (s : ℕ) → (section bytes s).size ≤ 1048576 → Stands TooLarge bytes s 0 → ⊥
  -- 1,048,576 symbols or relocations at most, of 24 bytes each (gABI: `Elf64_Sym`, `Elf64_Rela`)
  pub long_table : (bytes : List ℕ) (s : ℕ) → IsTable bytes s → 25165824 < (section bytes s).size
      → Stands TooLarge bytes s 0
  pub short_table : (bytes : List ℕ) (s : ℕ) → (IsKeptSection bytes s → ⊥) → (section bytes s).size ≤ 25165824
      → Stands TooLarge bytes s 0 → ⊥

-- ** links

pub record LinksAreSmall : Type 0 where
  -- a section
  pub ordinary : (class : Option SectionClass) (size alignment : ℕ)
      → IsOrdinary (record { class = class; size = size; alignment = alignment })
      ↔ ((size ≤ 1048576) × IsAlignment alignment)
  -- all sections: 1,048,576 bytes of thread-local storage, and 16,777,216 addresses
  pub lawful : (p : Layout) → IsLawful p
      ↔ (All IsOrdinary p.sections × (tls_size p.sections ≤ 1048576) × (span p.kind p.sections ≤ 16777216))
  -- 524,288 relocations, and 4,194,304 bytes of names, each with its symbol and a zero
  pub crowded : (l : Linking) → IsCrowded l
      ↔ ((524288 < relocation_count l.objects) ⊎ (4194304 < name_size l.objects (own_symbols l) (imports l)))

-- ** images

pub record ImagesAreSmall : Type 0 where
  -- 67,108,864 addresses
  pub range : (bytes : List ℕ) → IsInRange bytes 0
      ↔ ((base bytes ≤ (segment bytes 0).vaddr)
      × ((segment bytes 0).vaddr + (segment bytes 0).memsz ≤ base bytes + 67108864))
  -- as many bytes of thread-local storage as a link may have, and just as many may be
  pub storage : (bytes : List ℕ) (s : Segment) → IsRightTls bytes s
      → (s.memsz ≤ 1048576) × IsRightTls bytes (record s { memsz = 1048576 })
  -- and so does a registry of them ask
  pub info : (info : ImageInfo) → IsInfo info ↔ ((info.size ≤ 1048576) × (1 ≤ info.align) × (info.align ≤ 4096))
  -- 64 images, late ones last, whose blocks lie in less than 134,217,728 bytes
  pub infos : (infos : List ImageInfo) → AreInfos infos
      ↔ ((1 ≤ length infos) × (length infos ≤ 64) × All IsInfo infos
      × AllPairs (λ (a b : ImageInfo). a.late ≡ true → b.late ≡ true) infos)
  pub legal : (infos : List ImageInfo) (last_offset : ℕ) (events : List Event) → IsLegal infos last_offset events
      ↔ (AreInfos infos × (last_offset < 134217728) × (is_legal (start infos last_offset) events ≡ true))
  -- instances of a job, and bytes of static storage for modules that are opened late
  pub instances : MOST_INSTANCES ≡ 4095
  pub surplus : SURPLUS ≡ 4096

-- ** instructions

-- an instruction has 15 bytes at most (Intel's manual, volume 2, section 2.3.11)
abbrev pub InstructionsAreShort : Type 0
InstructionsAreShort = (memory : AddressSpace ℕ) (place : ℕ)
    → fetch_of (range_accesses plain_operations) memory place
    ≡ code_at (range_accesses plain_operations) memory place 15
