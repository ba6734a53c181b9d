-- The values of the fields of an image's header (gABI, "ELF Header").
use Rattle.std.specs.Prelude.{◌≡◌, ◌≢◌, ◌<◌, ◌≤◌, ◌⊎◌, ℕ, slice_index}
use Rattle.elf_records.specs.declared.file_header.Header.{Header}
use Rattle.elf_records.specs.declared.file_header.TheConstants.{ELF_IDENT, ET_EXEC, ET_DYN, EM_X86_64, EV_CURRENT}
use Rattle.image_rules.specs.declared.rule.FieldRule.{FieldRule}
use Rattle.image_rules.specs.declared.rule.FieldRule.TheVariants.{FileType, Machine, Version, TableOffset, EntrySize}
use Rattle.image_rules.specs.declared.rule.FieldRule.TheVariants.{Count}

-- byte k of the file differs from the one that every ELF file for x86-64 has there
abbrev pub IsWrongIdent : Header → ℕ → Type 0
IsWrongIdent h k = (k < 7) × (slice_index h.ident k ≢ slice_index ELF_IDENT k)

-- the right value of each field
abbrev pub IsRightField : FieldRule → Header → Type 0
IsRightField FileType h = (h.e_type ≡ ET_EXEC) ⊎ (h.e_type ≡ ET_DYN)
IsRightField Machine h = h.e_machine ≡ EM_X86_64
IsRightField Version h = h.e_version ≡ EV_CURRENT
IsRightField TableOffset h = h.e_phoff ≡ 64
IsRightField EntrySize h = h.e_phentsize ≡ 56
IsRightField Count h = (0 < h.e_phnum) × (h.e_phnum ≤ 10)

-- where the field stands in the file
abbrev pub field_offset : FieldRule → ℕ
field_offset FileType = 16
field_offset Machine = 18
field_offset Version = 20
field_offset TableOffset = 32
field_offset EntrySize = 54
field_offset Count = 56
