-- The relocations of an object, and the bytes that they fill.
use Rattle.std.specs.Prelude.{◌+◌, ◌<◌, ◌≤◌, ℕ, List}
use Rattle.elf_records.specs.Records.{rela_kind}
pub use Rattle.elf_records.specs.Relocations.{relocation_kind, field_width, IsOfCode, width_of}
use Rattle.object_faults.specs.Parts.{section, rela, entry_count, IsRela}
use Rattle.object_faults.specs.Classes.{IsKeptSection}

-- e numbers a relocation of section r, whose target linking keeps
abbrev pub IsReloc : List ℕ → ℕ → ℕ → Type 0
IsReloc b r e = IsRela b r × IsKeptSection b (section b r).info × (e < entry_count (section b r))

-- the width of the field of entry e of section r
abbrev pub width_at : List ℕ → ℕ → ℕ → ℕ
width_at b r e = width_of (relocation_kind (rela_kind (rela b r e)))

-- byte k of the target lies in the field of entry e of section r
abbrev pub Covers : List ℕ → ℕ → ℕ → ℕ → Type 0
Covers b r e k = ((rela b r e).offset ≤ k) × (k < (rela b r e).offset + width_at b r e)
