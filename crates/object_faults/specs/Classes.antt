-- The classes of sections that linking keeps, by flags and type (gABI, "Sections"; psABI, "Special Sections").
use Rattle.std.specs.Prelude.{◌==◌, ◌||◌, ℕ, true, false, List, Option, Some, None, IsSome}
use Rattle.std.specs.Prelude.{bit_and, if◌then◌else◌}
use Rattle.elf_records.specs.declared.section_header.SectionHeader.{SectionHeader}
use Rattle.object_faults.specs.declared.class.SectionClass.{SectionClass}
use Rattle.object_faults.specs.declared.class.SectionClass.TheVariants.{Executable, ReadOnly, Tls, Writable}
use Rattle.elf_records.specs.declared.section_header.TheConstants.{SHT_PROGBITS, SHT_NOTE, SHT_NOBITS}
use Rattle.elf_records.specs.declared.section_header.TheConstants.{SHT_X86_64_UNWIND, SHF_WRITE, SHF_ALLOC}
use Rattle.elf_records.specs.declared.section_header.TheConstants.{SHF_EXECINSTR, SHF_TLS}
use Rattle.object_faults.specs.declared.class.TheConstants.{CLASS_FLAGS, SHF_TLS_WRITE}
use Rattle.object_faults.specs.Parts.{section, IsSection}

-- the class of flags, without those that any class may have, and of a type
abbrev pub class_row : ℕ → ℕ → Option SectionClass
class_row flags kind =
    if flags == SHF_EXECINSTR then (if kind == SHT_PROGBITS then Some Executable else None) else
    if flags == 0 then (if (kind == SHT_PROGBITS) || (kind == SHT_NOTE) || (kind == SHT_X86_64_UNWIND) then Some
    ReadOnly else None) else
    if (flags == SHF_TLS) || (flags == SHF_TLS_WRITE) then
    (if kind == SHT_PROGBITS then Some (Tls true) else if kind == SHT_NOBITS then Some (Tls false) else None) else
    if flags == SHF_WRITE then
    (if kind == SHT_PROGBITS then Some (Writable true) else if kind == SHT_NOBITS then Some (Writable false) else
    None) else
    None

-- the class that a section's flags and type give it
unfoldable pub class_of : SectionHeader → Option SectionClass
class_of h = if bit_and h.flags SHF_ALLOC == 0 then None else class_row (bit_and h.flags CLASS_FLAGS) h.kind

-- the class, but none for a writable section of no bytes
abbrev pub kept_of : Option SectionClass → ℕ → Option SectionClass
kept_of (Some (Writable initial)) size = if size == 0 then None else Some (Writable initial)
kept_of class size = class

-- the class that linking keeps the section in
unfoldable pub kept_class : SectionHeader → Option SectionClass
kept_class h = kept_of (class_of h) h.size

-- s numbers a section that linking keeps
abbrev pub IsKeptSection : List ℕ → ℕ → Type 0
IsKeptSection b s = IsSection b s × IsSome (kept_class (section b s))

-- s numbers a section of thread-local storage
abbrev pub IsTls : Option SectionClass → Type 0
IsTls (Some (Tls _)) = Unit {0}
IsTls _ = ⊥
