-- Parts and symbols of images that are written down.
use Rattle.std.proofs.Common.{ℕ, true, false, List}
use Rattle.image_file.specs.Spelled.{Part}
use Rattle.image_file.specs.declared.part.PartClass.{PartClass}
use Rattle.image_file.specs.declared.symbol.ImageSymbol.{ImageSymbol}
use Rattle.elf_records.specs.declared.symbol.SymbolBinding.TheVariants.{Local, Global}
use Rattle.elf_records.specs.declared.symbol.SymbolType.{SymbolType}
use Rattle.elf_records.specs.declared.symbol.SymbolType.TheVariants.{NoType}
use Rattle.elf_records.specs.declared.symbol.Visibility.TheVariants.{Default}
use Rattle.closed_jobs.specs.Worlds.{file}

-- a part with the bytes of these lines of digits
abbrev pub part : PartClass → ℕ → List (List ℕ) → Part
part class address lines = record { class = class; address = address; bytes = file lines }

-- symbol 0
abbrev pub reserved : ImageSymbol
reserved = record { binding = Local; kind = NoType; visibility = Default; is_defined = false; value = 0; size = 0 }

-- a global symbol that is defined, and one that is taken of another image or of the run time
abbrev pub defined : SymbolType → ℕ → ℕ → ImageSymbol
defined kind value size =
    record { binding = Global; kind = kind; visibility = Default; is_defined = true; value = value; size = size }

abbrev pub taken : SymbolType → ImageSymbol
taken kind =
    record { binding = Global; kind = kind; visibility = Default; is_defined = false; value = 0; size = 0 }
