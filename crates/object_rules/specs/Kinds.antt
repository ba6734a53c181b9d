-- The kinds of fault of one section, of one symbol and of one relocation, among all kinds.
use Rattle.object_rules.specs.declared.fault.FaultKind.{FaultKind}
use Rattle.object_rules.specs.declared.fault.FaultKind.TheVariants.{SectionName, SectionKind, SectionAlign, TooLarge}
use Rattle.object_rules.specs.declared.fault.FaultKind.TheVariants.{SymbolName, SymbolSection, SymbolRange}
use Rattle.object_rules.specs.declared.fault.FaultKind.TheVariants.{SymbolKind, RelocSymbol, RelocKind, RelocRange}
use Rattle.object_rules.specs.declared.kinds.SectionFault.{SectionFault}
use Rattle.object_rules.specs.declared.kinds.SectionFault.TheVariants as section
use Rattle.object_rules.specs.declared.kinds.SymbolFault.{SymbolFault}
use Rattle.object_rules.specs.declared.kinds.SymbolFault.TheVariants as symbol
use Rattle.object_rules.specs.declared.kinds.RelocFault.{RelocFault}
use Rattle.object_rules.specs.declared.kinds.RelocFault.TheVariants as reloc

-- of sections
abbrev pub of_section : SectionFault → FaultKind
of_section section.Name = SectionName
of_section section.Kind = SectionKind
of_section section.Align = SectionAlign
of_section section.Large = TooLarge

-- of symbols
abbrev pub of_symbol : SymbolFault → FaultKind
of_symbol symbol.Name = SymbolName
of_symbol symbol.Section = SymbolSection
of_symbol symbol.Range = SymbolRange
of_symbol symbol.Kind = SymbolKind

-- of relocations
abbrev pub of_reloc : RelocFault → FaultKind
of_reloc reloc.Symbol = RelocSymbol
of_reloc reloc.Kind = RelocKind
of_reloc reloc.Range = RelocRange
