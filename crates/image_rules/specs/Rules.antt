-- The order of the rules, and the kind of fault of a broken rule.
use Rattle.std.specs.Prelude.{◌+◌, ℕ}
use Rattle.image_rules.specs.declared.fault.FaultKind.{FaultKind}
use Rattle.image_rules.specs.declared.fault.FaultKind.TheVariants as kind
use Rattle.image_rules.specs.declared.rule.Rule.{Rule}
use Rattle.image_rules.specs.declared.rule.Rule.TheVariants.{Length, Ident, Field, Extent, Segment, Entry, Table}
use Rattle.image_rules.specs.declared.rule.FieldRule.TheVariants.{FileType, Machine, Version, TableOffset, EntrySize}
use Rattle.image_rules.specs.declared.rule.FieldRule.TheVariants.{Count}
use Rattle.image_rules.specs.declared.rule.EntryRule.{EntryRule}
use Rattle.image_rules.specs.declared.rule.EntryRule.TheVariants.{Hash, Strings, Symbols, StringsSize, SymbolSize}
use Rattle.image_rules.specs.declared.rule.EntryRule.TheVariants.{Relocations, RelocationsSize, RelocationSize, Flags}
use Rattle.image_rules.specs.declared.rule.EntryRule.TheVariants.{End}
use Rattle.image_rules.specs.declared.rule.TableRule.TheVariants.{Symbol, Relocation, TlsSymbol, TlsRelocation}

-- the entries in the order of the array
abbrev pub entry_number : EntryRule → ℕ
entry_number Hash = 0
entry_number Strings = 1
entry_number Symbols = 2
entry_number StringsSize = 3
entry_number SymbolSize = 4
entry_number Relocations = 5
entry_number RelocationsSize = 6
entry_number RelocationSize = 7
entry_number Flags = 8
entry_number End = 9

-- the order of the rules: the fields in the order of the file, the tables in that of the checks
abbrev pub number : Rule → ℕ
number Length = 0
number Ident = 1
number (Field FileType) = 2
number (Field Machine) = 3
number (Field Version) = 4
number (Field TableOffset) = 5
number (Field EntrySize) = 6
number (Field Count) = 7
number Extent = 8
number Segment = 9
number (Entry rule) = 10 + entry_number rule
number (Table Symbol) = 20
number (Table Relocation) = 21
number (Table TlsSymbol) = 22
number (Table TlsRelocation) = 23

-- the kind of fault of a broken rule
abbrev pub kind_of : Rule → FaultKind
kind_of Length = kind.Truncated
kind_of Ident = kind.Header
kind_of (Field rule) = kind.Header
kind_of Extent = kind.Truncated
kind_of Segment = kind.Segment
kind_of (Entry rule) = kind.Dynamic
kind_of (Table Symbol) = kind.Dynamic
kind_of (Table Relocation) = kind.Relocation
kind_of (Table TlsSymbol) = kind.TlsPlace
kind_of (Table TlsRelocation) = kind.TlsPlace
