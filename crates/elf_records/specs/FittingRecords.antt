-- Which records have fields that fit.
use Rattle.std.specs.Prelude.{◌≡◌, [], ◌∷◌, length, FitsSigned}
use Rattle.std.specs.Int.{w64}
use Rattle.elf_records.specs.declared.file_header.Header.{Header}
use Rattle.elf_records.specs.declared.section_header.SectionHeader.{SectionHeader}
use Rattle.elf_records.specs.declared.symbol.SymbolEntry.{SymbolEntry}
use Rattle.elf_records.specs.declared.relocation.Rela.{Rela}
use Rattle.elf_records.specs.declared.program_header.Segment.{Segment}
use Rattle.elf_records.specs.declared.dynamic.DynamicEntry.{DynamicEntry}
use Rattle.elf_records.specs.FieldLaws.{FitAll}
use Rattle.elf_records.specs.Records.{header_fields, section_fields, symbol_fields, segment_fields, dynamic_fields}

-- each field is in the range of its type, as in every record that code holds
abbrev pub FitsHeader : Header → Type 0
FitsHeader r = (length r.ident ≡ 16) × FitAll (header_fields r)

-- each field is in the range of its type, as in every record that code holds
abbrev pub FitsSectionHeader : SectionHeader → Type 0
FitsSectionHeader r = FitAll (section_fields r)

-- each field is in the range of its type, as in every record that code holds
abbrev pub FitsSymbolEntry : SymbolEntry → Type 0
FitsSymbolEntry r = FitAll (symbol_fields r)

-- each field is in the range of its type, as in every record that code holds
abbrev pub FitsRela : Rela → Type 0
FitsRela r = FitAll ((8, r.offset) ∷ (8, r.info) ∷ []) × FitsSigned w64 r.addend

-- each field is in the range of its type, as in every record that code holds
abbrev pub FitsSegment : Segment → Type 0
FitsSegment r = FitAll (segment_fields r)

-- each field is in the range of its type, as in every record that code holds
abbrev pub FitsDynamicEntry : DynamicEntry → Type 0
FitsDynamicEntry r = FitAll (dynamic_fields r)
