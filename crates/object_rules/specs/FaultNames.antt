-- The kinds of fault as they are printed.
use Rattle.std.specs.Prelude.{ℕ, List, codes}
use Rattle.object_rules.specs.declared.fault.FaultKind.{FaultKind}
use Rattle.object_rules.specs.declared.fault.FaultKind.TheVariants.{Truncated, NotElf, NotRelocatable, SectionName}
use Rattle.object_rules.specs.declared.fault.FaultKind.TheVariants.{SectionKind, SectionAlign, TooLarge, SymbolTable}
use Rattle.object_rules.specs.declared.fault.FaultKind.TheVariants.{SymbolName, SymbolSection, SymbolRange}
use Rattle.object_rules.specs.declared.fault.FaultKind.TheVariants.{SymbolKind, RelocTarget, RelocSymbol, RelocKind}
use Rattle.object_rules.specs.declared.fault.FaultKind.TheVariants.{RelocRange, RelocOverlap, Sequence, StrayCall}
use Rattle.object_rules.specs.declared.fault.FaultKind.TheVariants.{WritableData}

abbrev pub kind_name : FaultKind → List ℕ
kind_name Truncated = codes "Truncated"
kind_name NotElf = codes "NotElf"
kind_name NotRelocatable = codes "NotRelocatable"
kind_name SectionName = codes "SectionName"
kind_name SectionKind = codes "SectionKind"
kind_name SectionAlign = codes "SectionAlign"
kind_name TooLarge = codes "TooLarge"
kind_name SymbolTable = codes "SymbolTable"
kind_name SymbolName = codes "SymbolName"
kind_name SymbolSection = codes "SymbolSection"
kind_name SymbolRange = codes "SymbolRange"
kind_name SymbolKind = codes "SymbolKind"
kind_name RelocTarget = codes "RelocTarget"
kind_name RelocSymbol = codes "RelocSymbol"
kind_name RelocKind = codes "RelocKind"
kind_name RelocRange = codes "RelocRange"
kind_name RelocOverlap = codes "RelocOverlap"
kind_name Sequence = codes "Sequence"
kind_name StrayCall = codes "StrayCall"
kind_name WritableData = codes "WritableData"
